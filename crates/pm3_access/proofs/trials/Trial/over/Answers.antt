use Rattle.std.proofs.Common.{◌≡◌, true, Some, None, sym, ◌∙◌, ap}
use Rattle.std.specs.FinMap as map
use Rattle.std.specs.Ordering.{nat_cmp}
use Rattle.pm3_core.specs.declared.naming.TheConstants.{BASE}
use Rattle.pm3_types.specs.Fields.{Fields}
use Rattle.pm3_types.specs.Layout.{PageImage}
use Rattle.pm3_types.specs.PageForm.{is_memory_reference}
use Rattle.std.specs.Prelude.{List}
use Rattle.pm3_page.specs.PageMap.{Images}
use Rattle.pm3_access.specs.Holding.{Holding, image_in}
use Rattle.pm3_access.specs.Sound.{ImagesHaveForm}
use Rattle.pm3_access.proofs.Homes.{is_some_none, nothing_there}
use Rattle.pm3_access.proofs.trials.Trial.over.Goals as goal

-- no image at all has any form that is asked for
none_has_form : (catalog : List Fields) (images : Images) → images ≡ map.empty → ImagesHaveForm catalog (is_memory_reference BASE 16384) images
none_has_form catalog images none page image is = absurd (is_some_none image (sym (ap (λ m. map.get m page) none ∙ map.get-empty nat_cmp page) ∙ is))

pub admit_space-requires-clause-absent : goal.admit_space-requires-clause-absent
admit_space-requires-clause-absent c = λ page is. ap (λ (h : Holding). image_in h page) c.new-held.ensures.nothing ∙ nothing_there page

pub invariant_of-result : goal.invariant_of-result
invariant_of-result c = λ is_new.
    c.admit_space.ensures.form c.in_ok-catalog.catalog (is_memory_reference BASE 16384)
    (c.new-held.ensures.form c.in_ok-catalog.catalog (is_memory_reference BASE 16384))
    (none_has_form c.in_ok-catalog.catalog c.args.space.images (c.requires is_new))
