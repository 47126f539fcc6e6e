-- The bytes are what has come.
use Rattle.std.proofs.Common.{◌≡◌, ◌+◌, ◌-◌, ◌≤◌, vec_len}
use Rattle.std.specs.Io.KnownBytes.{Consumes}
use Rattle.streams.specs.Inlet.{reader_of}
use Rattle.streams.specs.declared.inlet.State.TheVariants.{Spent}
use Rattle.sfnt_bytes.specs.declared.directory.TheConstants.{MAX_FILE}
use Rattle.streams.proofs.inlet.Inlet.read_all.Given as goal

abbrev pub invariant-loop-piece : goal.invariant-loop-piece
invariant-loop-piece g l =
    (l.self.state ≡ Spent) × (vec_len l.bytes ≤ MAX_FILE + 1)
    × Consumes (g.R.Read.remaining (reader_of l.fn.self)) (g.R.Read.remaining (reader_of l.self)) l.bytes.items

abbrev pub decreases-loop-piece : goal.decreases-loop-piece
decreases-loop-piece g l = MAX_FILE + 1 - vec_len l.bytes
