-- Words, this project's own: ranges of codes as text.
use Rattle.std.specs.Prelude.{◌≡◌, ℕ, ◌≤◌, ◌⊎◌, nat_eq, nat_lt, true, Bool, List, ◌∷◌, ◌++◌, length, codes}
use Rattle.std.specs.Prelude.{if◌then◌else◌}
use Rattle.std.specs.Char.{digit_value}
use Rattle.std.specs.Fmt.{digits}
use Rattle.std.specs.List.{list_all}
use Rattle.std.specs.Str.Parse.{digits_value}
use Rattle.codes.specs.Wanted.{IsBadRange}
use Rattle.codes.specs.declared.code_points.TheConstants.{LAST_CODE}
use Rattle.codes.specs.declared.code_range.CodeRange.{CodeRange}
use Rattle.codes.specs.declared.word.WordError.{WordError}
use Rattle.codes.specs.declared.word.WordError.TheVariants.{BadRange, BadWord}

-- an ASCII digit, or a letter from A to F of either case
abbrev pub is_hexadecimal : ℕ → Bool
is_hexadecimal c = nat_lt (digit_value c) 16

-- 1 to 6 hexadecimal digits write a code
pub record SpellsCode (digits : List ℕ) (code : ℕ) : Type 0 where
  pub some : 1 ≤ length digits
  pub few : length digits ≤ 6
  pub hexadecimal : list_all is_hexadecimal digits ≡ true
  pub value : digits_value 16 digits ≡ code

-- digits, `-` and digits write two codes
pub record WritesTwo (text : List ℕ) (first last : ℕ) : Type 0 where
  pub front : List ℕ
  pub back : List ℕ
  pub parts : text ≡ front ++ (codes "-" ++ back)
  pub first_is : SpellsCode front first
  pub last_is : SpellsCode back last

-- one code, or two
abbrev pub WritesCodes : List ℕ → ℕ → ℕ → Type 0
WritesCodes text first last = (SpellsCode text first × (first ≡ last)) ⊎ WritesTwo text first last

-- `U+` and codes
pub record IsCodeWord (text : List ℕ) (first last : ℕ) : Type 0 where
  pub behind : List ℕ
  pub begins : text ≡ codes "U+" ++ behind
  pub codes_are : WritesCodes behind first last

-- a word for the codes from one to another: `all` or `U+` and codes
abbrev pub IsWord : List ℕ → ℕ → ℕ → Type 0
IsWord text first last =
    ((text ≡ codes "all") × (first ≡ 0) × (last ≡ LAST_CODE)) ⊎ IsCodeWord text first last

-- why a text is refused: it is no word, or one of a bad range
abbrev pub IsRefusedWord : List ℕ → WordError → Type 0
IsRefusedWord text BadWord = (first last : ℕ) → IsWord text first last → ⊥
IsRefusedWord text BadRange = (first : ℕ) × (last : ℕ) × IsWord text first last × IsBadRange first last

-- a text is a word for one range at most
abbrev pub OneRangeOfWord : Type 0
OneRangeOfWord =
    (text : List ℕ) (first last least most : ℕ) → IsWord text first last → IsWord text least most →
    (first ≡ least) × (last ≡ most)

-- what is written of a code: `U+` and its upper-case hexadecimal digits
abbrev pub code_word : ℕ → List ℕ
code_word code = codes "U+" ++ digits 16 true code

-- what is written of a range: its one code, or its first code, `-` and the digits of its last code
abbrev pub range_word : CodeRange → List ℕ
range_word range =
    if nat_eq range.first range.last then code_word range.first
    else code_word range.first ++ 45 ∷ digits 16 true range.last
