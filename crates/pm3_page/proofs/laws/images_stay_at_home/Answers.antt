use Rattle.std.proofs.Common.{◌≡◌, eqb, cond, Option, None, Some, sym, ap, ◌∙◌, inl, inr}
use Rattle.std.proofs.lemmas.Bool.{cases_eq, eq-eqb, ne_eqb, cond-true, cond-false}
use Rattle.std.specs.Ordering.{nat_cmp}
use Rattle.std.specs.Cmp.{nat_cmp_total, unsigned_tied}
use Rattle.std.specs.FinMap as map
use Rattle.std.specs.FinMap.{get-empty, get-insert, get-remove}
use Rattle.pm3_types.specs.Layout.{PageImage}
use Rattle.pm3_page.proofs.laws.images_stay_at_home.Goals as goal

not_there : (image : PageImage) (P : Type 0) → ◌≡◌ {A = Option PageImage} None (Some image) → P
not_there image P is = cc

same_image : (image other : PageImage) → Some image ≡ Some other → image ≡ other
same_image image other is = cc

pub returns-clause-none : goal.returns-clause-none
returns-clause-none c = λ page image there. not_there image _ (sym (get-empty nat_cmp page) ∙ there)

pub returns-clause-put : goal.returns-clause-put
returns-clause-put c = λ images page image home own q other there.
    let is : cond (eqb q page) (Some image) (map.get images q) ≡ Some other =
    sym (get-insert nat_cmp_total images page image q ∙ ap (λ b. cond b (Some image) (map.get images q)) (unsigned_tied q page)) ∙ there in
    elim (cases_eq q page) [
      | inl same ↦ ap (λ (i : PageImage). i.page) (sym (same_image image other (sym (cond-true (eqb q page) _ _ (eq-eqb q page same)) ∙ is))) ∙ own ∙ sym same
      | inr apart ↦ home q other (sym (cond-false (eqb q page) _ _ (ne_eqb q page apart)) ∙ is)
    ]

pub returns-clause-taken : goal.returns-clause-taken
returns-clause-taken c = λ images page home q image there.
    let is : cond (eqb q page) None (map.get images q) ≡ Some image =
    sym (get-remove nat_cmp_total images page q ∙ ap (λ b. cond b None (map.get images q)) (unsigned_tied q page)) ∙ there in
    elim (cases_eq q page) [
      | inl same ↦ not_there image _ (sym (cond-true (eqb q page) _ _ (eq-eqb q page same)) ∙ is)
      | inr apart ↦ home q image (sym (cond-false (eqb q page) _ _ (ne_eqb q page apart)) ∙ is)
    ]
