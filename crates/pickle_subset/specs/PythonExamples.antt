-- The definition writes what Python writes for the examples. Made by e2e/pickles.py with Python's
-- `pickle`.
use Rattle.std.specs.Prelude.{◌≡◌}
use Rattle.pickle_subset.specs.Python.{pickle_of}
use Rattle.pickle_subset.specs.PythonRows.{none, none_1, none_from_2, none_from_4, one, one_1, one_from_2, one_from_4, two, two_1, two_from_2, two_from_4}
use Rattle.pickle_subset.specs.PythonScalars.{scalars, scalars_1, scalars_from_2, scalars_from_4, floats, floats_1, floats_from_4, long, long_from_2, long_from_4}
use Rattle.pickle_subset.specs.PythonSharing.{sharing, sharing_1, sharing_from_2, sharing_from_4, thousand, thousand_from_2}
use Rattle.pickle_subset.specs.PythonFrames.{filling, filling_from_4}

-- the definition writes what Python writes
abbrev pub WritesAsPythonLaw : Type 0
WritesAsPythonLaw =
    (pickle_of 1 none ≡ none_1)
    × (pickle_of 2 none ≡ none_from_2 2)
    × (pickle_of 3 none ≡ none_from_2 3)
    × (pickle_of 4 none ≡ none_from_4 4)
    × (pickle_of 5 none ≡ none_from_4 5)
    × (pickle_of 1 one ≡ one_1)
    × (pickle_of 2 one ≡ one_from_2 2)
    × (pickle_of 3 one ≡ one_from_2 3)
    × (pickle_of 4 one ≡ one_from_4 4)
    × (pickle_of 5 one ≡ one_from_4 5)
    × (pickle_of 1 two ≡ two_1)
    × (pickle_of 2 two ≡ two_from_2 2)
    × (pickle_of 3 two ≡ two_from_2 3)
    × (pickle_of 4 two ≡ two_from_4 4)
    × (pickle_of 5 two ≡ two_from_4 5)
    × (pickle_of 1 scalars ≡ scalars_1)
    × (pickle_of 2 scalars ≡ scalars_from_2 2)
    × (pickle_of 3 scalars ≡ scalars_from_2 3)
    × (pickle_of 4 scalars ≡ scalars_from_4 4)
    × (pickle_of 5 scalars ≡ scalars_from_4 5)
    × (pickle_of 1 floats ≡ floats_1)
    × (pickle_of 4 floats ≡ floats_from_4 4)
    × (pickle_of 2 long ≡ long_from_2 2)
    × (pickle_of 3 long ≡ long_from_2 3)
    × (pickle_of 4 long ≡ long_from_4 4)
    × (pickle_of 5 long ≡ long_from_4 5)
    × (pickle_of 1 sharing ≡ sharing_1)
    × (pickle_of 2 sharing ≡ sharing_from_2 2)
    × (pickle_of 3 sharing ≡ sharing_from_2 3)
    × (pickle_of 4 sharing ≡ sharing_from_4 4)
    × (pickle_of 5 sharing ≡ sharing_from_4 5)
    × (pickle_of 2 thousand ≡ thousand_from_2 2)
    × (pickle_of 4 filling ≡ filling_from_4 4)
    × (pickle_of 5 filling ≡ filling_from_4 5)
