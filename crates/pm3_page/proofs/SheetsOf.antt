-- The sheet of a page is that of its image.
use Rattle.std.proofs.Common.{◌≡◌, ℕ, Bool, true, false, cond, List, [], ◌∷◌, Option, None, Some, refl, sym, ap, ◌∙◌}
use Rattle.std.specs.Option.{option_or}
use Rattle.std.specs.Ordering.{nat_cmp, eq_by_cmp}
use Rattle.std.specs.Cmp.{nat_cmp_total}
use Rattle.std.specs.FinMap as map
use Rattle.std.specs.FinMap.{find, get-empty, get-insert, get-entries}
use Rattle.pm3_types.specs.Layout.{Sheet, PageImage}
use Rattle.pm3_types.specs.Shown as shown
use Rattle.pm3_page.specs.PageMap.{Images}
use Rattle.pm3_page.specs.PageSheets.{sheet_in, sheets_over, sheets_of}

chosen : (b : Bool) (image : PageImage) (o : Option PageImage) (p : Option Sheet) → cond b (Some image.sheet) (option_or (sheet_in o) p) ≡ option_or (sheet_in (cond b (Some image) o)) p
chosen true image o p = refl
chosen false image o p = refl

pub get-sheets_over : (es : List (ℕ × PageImage)) (sheets : shown.Images) (q : ℕ) → map.get (sheets_over es sheets) q ≡ option_or (sheet_in (find nat_cmp q es)) (map.get sheets q)
get-sheets_over [] sheets q = refl
get-sheets_over (e ∷ es) sheets q =
    get-insert nat_cmp_total (sheets_over es sheets) e.0 e.1.sheet q
    ∙ ap (cond (eq_by_cmp nat_cmp q e.0) (Some e.1.sheet)) (get-sheets_over es sheets q)
    ∙ chosen (eq_by_cmp nat_cmp q e.0) e.1 (find nat_cmp q es) (map.get sheets q)

-- of a page without an image it is that of the others
pub get-over : (images : Images) (sheets : shown.Images) (q : ℕ) → map.get (sheets_over (map.entries images) sheets) q ≡ option_or (sheet_in (map.get images q)) (map.get sheets q)
get-over images sheets q = get-sheets_over (map.entries images) sheets q ∙ ap (λ (o : Option PageImage). option_or (sheet_in o) (map.get sheets q)) (sym (get-entries images q))

or_none : (o : Option Sheet) → option_or o None ≡ o
or_none None = refl
or_none (Some sheet) = refl

pub get-sheets_of : (images : Images) (q : ℕ) → map.get (sheets_of images) q ≡ sheet_in (map.get images q)
get-sheets_of images q = get-over images map.empty q ∙ ap (option_or (sheet_in (map.get images q))) (get-empty nat_cmp q) ∙ or_none (sheet_in (map.get images q))
