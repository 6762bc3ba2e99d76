-- Collections of images that have the form.
use Rattle.std.proofs.Common.{◌≡◌, ◌≢◌, ◌<◌, ◌∙◌, inl, inr, ℕ, cond, List, None, Some, is_some, sym, ap, subst}
use Rattle.std.specs.Ordering.{nat_cmp}
use Rattle.std.specs.Cmp.{nat_cmp_total, unsigned_tied}
use Rattle.std.specs.FinMap as map
use Rattle.std.specs.FinMap.{get-empty, get-insert, get-remove}
use Rattle.std.proofs.lemmas.Bool.{cases_eq, eq-eqb, ne_eqb, false≢true}
use Rattle.pm3_types.specs.Fields.{Fields}
use Rattle.pm3_types.specs.Layout.{PageImage}
use Rattle.pm3_types.specs.PageForm.{IsSound}
use Rattle.pm3_page.specs.PageMap.{Images}
use Rattle.pm3_page.specs.PageSheets.{AreSoundPages}
use Rattle.pm3_copy.proofs.Wholes.{same_some, none_some}

pub get_here : (images : Images) (p q : ℕ) (image : PageImage) → q ≡ p → map.get (map.insert images p image) q ≡ Some image
get_here images p q image same = get-insert nat_cmp_total images p image q ∙ ap (λ b. cond b (Some image) (map.get images q)) (unsigned_tied q p ∙ eq-eqb q p same)

pub get_else : (images : Images) (p q : ℕ) (image : PageImage) → q ≢ p → map.get (map.insert images p image) q ≡ map.get images q
get_else images p q image apart = get-insert nat_cmp_total images p image q ∙ ap (λ b. cond b (Some image) (map.get images q)) (unsigned_tied q p ∙ ne_eqb q p apart)

pub gone_here : (images : Images) (p q : ℕ) → q ≡ p → map.get (map.remove images p) q ≡ None
gone_here images p q same = get-remove nat_cmp_total images p q ∙ ap (λ b. cond b None (map.get images q)) (unsigned_tied q p ∙ eq-eqb q p same)

pub gone_else : (images : Images) (p q : ℕ) → q ≢ p → map.get (map.remove images p) q ≡ map.get images q
gone_else images p q apart = get-remove nat_cmp_total images p q ∙ ap (λ b. cond b None (map.get images q)) (unsigned_tied q p ∙ ne_eqb q p apart)

module _ (catalog : List Fields) (base pages : ℕ) where
  pub sound_none : AreSoundPages catalog base pages map.empty
  sound_none = record {
    home = λ p image on. none_some image _ (sym (get-empty nat_cmp p) ∙ on);
    low = λ p is. absurd (false≢true (sym (ap is_some (get-empty nat_cmp p)) ∙ is));
    form = λ p image on. none_some image _ (sym (get-empty nat_cmp p) ∙ on);
  }

  pub sound_put : (images : Images) (p : ℕ) (image : PageImage) → AreSoundPages catalog base pages images → image.page ≡ p → p < 16384 → IsSound catalog base pages image → AreSoundPages catalog base pages (map.insert images p image)
  sound_put images p image sound home low form = record {
    home = λ q other on. elim (cases_eq q p) [
      | inl same ↦ ap (λ (i : PageImage). i.page) (sym (same_some image other (sym (get_here images p q image same) ∙ on))) ∙ home ∙ sym same
      | inr apart ↦ sound.home q other (sym (get_else images p q image apart) ∙ on)
    ];
    low = λ q is. elim (cases_eq q p) [
      | inl same ↦ subst (λ n. n < 16384) (sym same) low
      | inr apart ↦ sound.low q (sym (ap is_some (get_else images p q image apart)) ∙ is)
    ];
    form = λ q other on. elim (cases_eq q p) [
      | inl same ↦ subst (IsSound catalog base pages) (same_some image other (sym (get_here images p q image same) ∙ on)) form
      | inr apart ↦ sound.form q other (sym (get_else images p q image apart) ∙ on)
    ];
  }
