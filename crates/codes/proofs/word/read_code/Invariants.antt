use Rattle.std.proofs.Common.{◌≤◌, length}
use Rattle.codes.proofs.WordLemmas.{Reads}
use Rattle.codes.proofs.word.read_code.Given as goal

abbrev pub invariant-loop-i : goal.invariant-loop-i
invariant-loop-i l =
    record {
      few : length l.digits ≤ 6;
      reads : Reads l.digits l.i l.code;
    }
