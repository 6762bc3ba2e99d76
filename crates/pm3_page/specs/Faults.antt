-- Why a page of a file gives no image.
use Rattle.std.specs.Prelude.{ℕ, ◌≡◌, Err}
use Rattle.pm3_page.specs.declared.page_file.ImageFault.{ImageFault}
use Rattle.pm3_page.specs.declared.page_file.ImageFault.TheVariants.{Damaged, Memory}
use Rattle.pm3_page.specs.Scan.{Read}

-- the fault names the page and the first word at which it departs from the form; want of memory tells nothing of the page
abbrev pub IsFaultOf : ℕ → Read → ImageFault → Type 0
IsFaultOf page read (Damaged p word) = (p ≡ page) × (read ≡ Err word)
IsFaultOf page read Memory = Unit {0}
