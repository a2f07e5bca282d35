-- What became of reading a piece.
use Rattle.std.specs.Prelude.{ℕ}
use Rattle.spool.specs.declared.pieces.PieceRead.{PieceRead}
use Rattle.spool.specs.declared.pieces.PieceRead.TheVariants.{Bytes}

-- of the bytes, if some were read
abbrev pub IfBytes : PieceRead → (ℕ → Type 0) → Type 0
IfBytes (Bytes count) is = is count
IfBytes _ is = Unit {0}
