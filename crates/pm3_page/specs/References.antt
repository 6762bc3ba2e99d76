-- References between a file and memory: in each direction a reference, or nothing where it is none.
use Rattle.std.specs.Prelude.{ℕ, cond, Option, Some, None}
use Rattle.pm3_types.specs.PageForm.{is_file_reference, is_memory_reference, memory_reference, file_reference}
use Rattle.pm3_page.specs.declared.references.Way.{Way}
use Rattle.pm3_page.specs.declared.references.Way.TheVariants.{FromFile, ToFile}

abbrev pub from_file : ℕ → ℕ → ℕ → Option ℕ
from_file base pages r = cond (is_file_reference pages r) (Some (memory_reference base r)) None

abbrev pub to_file : ℕ → ℕ → ℕ → Option ℕ
to_file base pages a = cond (is_memory_reference base pages a) (Some (file_reference base a)) None

-- a store has at most 16,384 pages
abbrev pub refer_by : ℕ → Way → ℕ → Option ℕ
refer_by base (FromFile pages) word = from_file base pages word
refer_by base ToFile word = to_file base 16384 word
