-- The file of a disk.
use Rattle.std.specs.Prelude.{ℕ, List, string_bytes}
use Rattle.pm3_disk.specs.declared.file_disk.FileDisk.{FileDisk}

-- the path that was given for it
abbrev pub path_of : {R F E : Type 0} → FileDisk R F E → List ℕ
path_of disk = string_bytes disk.link.path
