-- What the examples of what Python writes are made of.
use Rattle.std.specs.Prelude.{ℕ, zero, suc, ◌+◌, ◌*◌, List, [], ◌++◌}
use Rattle.pickle_subset.specs.Python.{Scalar, Row}

-- the row of a place in a list of rows that share nothing: the list is object 0, and each row has five
abbrev pub own_row : ℕ → List ℕ → Scalar → Scalar → Row
own_row place path time value = record {
  id = 5 * place + 1;
  path = record { id = 5 * place + 2; text = path };
  pair = 5 * place + 3;
  time = time;
  value = value;
}

-- some bytes, this many times
abbrev pub times : ℕ → List ℕ → List ℕ
times zero bytes = []
times (suc count) bytes = bytes ++ times count bytes
