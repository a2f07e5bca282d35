-- A checksum of the files of a configuration.
use Rattle.std.specs.Prelude.{ℕ, List, [], ◌++◌, Option, Some, None}
use Rattle.md5.specs.Md5.{md5}
use Rattle.relay_files.specs.Files.{File, Unreadable, Bytes, Files}

-- the MD5 (RFC 1321) of the bytes of all, one file behind the other
abbrev pub configuration_sum : (config rules rewrite : List ℕ) → List ℕ
configuration_sum config rules rewrite = md5 (config ++ rules ++ rewrite)

-- a file that could not be read has no bytes
abbrev pub bytes_in : File → List ℕ
bytes_in Unreadable = []
bytes_in (Bytes bytes) = bytes

-- nor has one that is not given
abbrev pub bytes_given : Option File → List ℕ
bytes_given None = []
bytes_given (Some file) = bytes_in file

-- the checksum of these files
abbrev pub sum_of : Files → List ℕ
sum_of files =
    configuration_sum (bytes_in files.config) (bytes_given files.rules) (bytes_given files.rewrite)
