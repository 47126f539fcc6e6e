-- What a caller in C asks of a font, this project's own: a request as it stands in memory, and how it is read.
use Rattle.std.specs.Prelude.{◌≡◌, ℕ, nat_eq, nat_lt, ◌&&◌, ◌||◌, Bool, List, [], ◌∷◌, length, Some, Result, Ok, Err}
use Rattle.std.specs.Prelude.{MatchResult, if◌then◌else◌, slice_index_or}
use Rattle.std.specs.List.{list_all}
use Rattle.std.specs.Option.{option_map_or}
use Rattle.codes.specs.Wanted.{codes_between, either, no_codes}
use Rattle.codes.specs.declared.code_range.CodeRange.{CodeRange}
use Rattle.font_theory.specs.declared.kinds.Kind.{Kind}
use Rattle.font_subset.specs.CutOfKind.{keeps_links}
use Rattle.font_subset.specs.KeptGlyphs.{glyphs_wanted}
use Rattle.font_theory.specs.Content.{Wanted}
use Rattle.commands.specs.Run.{Request}
use Rattle.fontcut_c.specs.Answers.{bad_requests, no_numbers, unknown_kind, unknown_request}
use Rattle.fontcut_c.specs.KindNumbers.{kind_of, takes_glyphs}
use Rattle.fontcut_c.specs.declared.answer.Answer.{Answer}
use Rattle.fontcut_c.specs.declared.requests.Request.{Request as InMemory}

-- what is asked of a font: how long the request says that it is, the number of a kind, the sum of flags, the ranges of
-- wanted codes, and wanted glyphs by number
pub record RawRequest : Type 0 where
  pub struct_size : ℕ
  pub kind : ℕ
  pub flags : ℕ
  pub ranges : List CodeRange
  pub glyphs : List ℕ

-- what a request in memory asks
abbrev pub asked_by : InMemory → RawRequest
asked_by request = record {
  struct_size = request.struct_size;
  kind = request.kind;
  flags = request.flags;
  ranges = request.ranges.now;
  glyphs = request.glyphs.now;
}

-- the request at an index
abbrev pub asked_at : List RawRequest → ℕ → RawRequest
asked_at all k = slice_index_or all k (record { struct_size = 0; kind = 0; flags = 0; ranges = []; glyphs = [] })

-- a sum of flags has that of cuts with all that links of GSUB lead to
abbrev pub has_closes : ℕ → Bool
has_closes flags = nat_eq flags 1 || nat_eq flags 3

-- a sum of flags has that of a font that was accepted before
abbrev pub has_checked : ℕ → Bool
has_checked flags = nat_eq flags 2 || nat_eq flags 3

-- a request has the length of this version, and no flags but these two
abbrev pub is_of_this_version : RawRequest → Bool
is_of_this_version a = nat_eq a.struct_size 48 && nat_lt a.flags 4

-- the codes of a set, and of ranges more
abbrev pub with_ranges : (ℕ → Bool) → List CodeRange → ℕ → Bool
with_ranges wanted [] = wanted
with_ranges wanted (range ∷ ranges) =
    with_ranges (either (codes_between range.first range.last) wanted) ranges

-- the codes of ranges
abbrev pub codes_of_ranges : List CodeRange → ℕ → Bool
codes_of_ranges ranges = with_ranges no_codes ranges

-- a cut of a kind that is asked for is closed under links
abbrev pub closes_for : Kind → RawRequest → Bool
closes_for kind a = has_closes a.flags && keeps_links kind

-- the codes and the glyphs that are wanted
abbrev pub wished : RawRequest → Wanted
wished a = record { codes = codes_of_ranges a.ranges; glyphs = glyphs_wanted (Some a.glyphs) }

-- what the program is asked for where its cuts are of this kind
abbrev pub request_of : Kind → RawRequest → Request
request_of kind a =
    record { kind = kind; closes = closes_for kind a; codes = codes_of_ranges a.ranges; numbers = Some a.glyphs }

-- the kind of cuts that a request asks for; or what is answered where it is not of this version, its number is no
-- kind's, or it asks for glyphs of full cuts
unfoldable pub read : RawRequest → Result Kind Answer
read a =
    if is_of_this_version a
    then option_map_or (λ kind. if takes_glyphs kind a.glyphs then Ok kind else Err no_numbers) (kind_of a.kind)
    (Err (unknown_kind a.kind))
    else Err unknown_request

-- a request differs from the first one in its ranges and glyphs alone
abbrev pub is_like : RawRequest → RawRequest → Bool
is_like first a =
    nat_eq a.struct_size first.struct_size && nat_eq a.kind first.kind && nat_eq a.flags first.flags

-- the kind of the first request, where cuts of it can be asked for the glyphs of all
abbrev pub read_on : List RawRequest → Result Kind Answer → Result Kind Answer
read_on all (Err answer) = Err answer
read_on all (Ok kind) = if list_all (λ a. takes_glyphs kind a.glyphs) all then Ok kind else Err no_numbers

-- the same of requests, of which there is one at least, which are all like the first one, and for which there are as
-- many places
unfoldable pub read_all : List RawRequest → ℕ → Result Kind Answer
read_all all places =
    if nat_lt 0 (length all) && nat_eq places (length all) && list_all (is_like (asked_at all 0)) all
    then read_on all (read (asked_at all 0))
    else Err bad_requests

-- what a call answers: what it says of a kind, or that the request was not read
abbrev pub AnswersRead : Result Kind Answer → Answer → (Kind → Type 0) → Type 0
AnswersRead outcome answer says = MatchResult outcome says (λ unread. answer ≡ unread)

-- a request was read, and this holds of its kind
abbrev pub HoldsRead : Result Kind Answer → (Kind → Type 0) → Type 0
HoldsRead outcome holds = MatchResult outcome holds (λ unread. ⊥)
