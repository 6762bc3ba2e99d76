-- The object at an address of an image in its form lies whole.
use Rattle.std.proofs.Common.{◌≡◌, ℕ, ◌+◌, ◌≤◌, Bool, true, false, List, Some, ap, arith}
use Rattle.std.specs.Prelude.{slice_get}
use Rattle.pm3_types.specs.Fields.{Fields}
use Rattle.pm3_types.specs.Layout.{PageImage, type_in, tail_in, tail_words, size_by, is_forwarded, word_in, begins_at, head_at}
use Rattle.pm3_types.specs.Whole.{IsWhole}
use Rattle.pm3_types.proofs.FormedObjects.{start_of, whole_start}
use Rattle.pm3_access.specs.Access.{ImageHasForm}

whole_at : (catalog : List Fields) (base : ℕ) (refers : ℕ → Bool) (image : PageImage) (a : ℕ) → ImageHasForm catalog refers image → begins_at base image a ≡ true
    → IsWhole catalog image.sheet (word_in base a)
whole_at catalog base refers image a form begins = whole_start catalog refers image.page image.sheet (word_in base a) form (start_of base image a begins)

-- it was not forwarded
pub is_unmoved : (catalog : List Fields) (base : ℕ) (refers : ℕ → Bool) (image : PageImage) (a : ℕ) → ImageHasForm catalog refers image → begins_at base image a ≡ true
    → is_forwarded (head_at base image a) ≡ false
is_unmoved catalog base refers image a form begins = (whole_at catalog base refers image a form begins).unmoved

-- its body ends on the page
pub body_within : (catalog : List Fields) (base : ℕ) (refers : ℕ → Bool) (image : PageImage) (a : ℕ) (map : Fields) → ImageHasForm catalog refers image → begins_at base image a ≡ true
    → slice_get catalog (type_in (head_at base image a)) ≡ Some map → word_in base a + 2 + map.count + tail_words map.tail (tail_in (head_at base image a)) ≤ 512
body_within catalog base refers image a map form begins is =
    let whole = whole_at catalog base refers image a form begins in
    let size = ap (λ o. size_by o (tail_in (head_at base image a))) is in
    let end = whole.within in
    omega arith
