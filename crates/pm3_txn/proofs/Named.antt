-- What the parts of an image name.
use Rattle.std.proofs.Common.{◌≡◌, ◌⊎◌, ℕ, ◌+◌, ◌<◌, ◌==◌, ◌&&◌, max, Bool, true, false, List, Option, Some, None, slice_index, sym, ap, ◌∙◌, subst, arith}
use Rattle.std.proofs.lemmas.Bool.{false≢true}
use Rattle.std.proofs.lemmas.Bool.Decides.{nat_tests}
use Rattle.pm3_core.specs.Naming.{page_in}
use Rattle.pm3_types.specs.Fields.{Fields}
use Rattle.pm3_types.specs.Layout as layout
use Rattle.pm3_types.specs.Layout.{Sheet, PageImage, is_start, begins_at, address, word_in, is_address}
use Rattle.pm3_types.specs.PageForm.{IsReferenceIn, map_at, tail_at}
use Rattle.pm3_types.proofs.Addressing.{page_in-address, word_in-address, is_address-address}
use Rattle.std.specs.FinMap.{get}
use Rattle.pm3_page.specs.PageMap.{Images}
use Rattle.pm3_txn.specs.Frontiers.{IsTop, Below, IsPlaceNamed, IsObjectNamed, IsSlotNamed, IsRootNamed, IsNamedOn, IsNamedUnder}
use Rattle.pm3_txn.proofs.Topping.{top_none, top_one, top_same, top_join}

pub word_top : (a word read t : ℕ) → word ≡ read → t ≡ max a (page_in word + 1) → IsTop (λ p. page_in read ≡ p) a t
word_top a word read t same is = subst (λ (w : ℕ). IsTop (λ p. page_in w ≡ p) a t) same (top_one a (page_in word) t is)

pub place_top : (map : Option Fields) (len : ℕ) (sheet : Sheet) (s k a word t : ℕ) → IsReferenceIn map len k → word ≡ slice_index sheet.words (s + 2 + k) → t ≡ max a (page_in word + 1)
    → IsTop (IsPlaceNamed map len sheet s k) a t
place_top map len sheet s k a word t reference same is =
    top_same (λ p. page_in (slice_index sheet.words (s + 2 + k)) ≡ p) (IsPlaceNamed map len sheet s k) a t (λ p named. (reference, named)) (λ p named. named.1)
    (word_top a word (slice_index sheet.words (s + 2 + k)) t same is)

pub object_top : (catalog : List Fields) (sheet : Sheet) (s : ℕ) (map : Option Fields) (len a t : ℕ) → is_start sheet s ≡ true → map ≡ map_at catalog sheet s → len ≡ tail_at sheet s
    → IsTop (λ p. (k : ℕ) × IsPlaceNamed map len sheet s k p) a t → IsTop (IsObjectNamed catalog sheet s) a t
object_top catalog sheet s map len a t begins map_is len_is top =
    top_same (λ p. (k : ℕ) × IsPlaceNamed (map_at catalog sheet s) (tail_at sheet s) sheet s k p) (IsObjectNamed catalog sheet s) a t (λ p x. (begins, x)) (λ p x. x.1)
    (subst (λ (z : Option Fields × ℕ). IsTop (λ p. (k : ℕ) × IsPlaceNamed z.0 z.1 sheet s k p) a t) (λ i. (map_is i, len_is i)) top)

pub begins_is : (base : ℕ) (image : PageImage) (word : ℕ) → word < 512 → begins_at base image (address base image.page word) ≡ is_start image.sheet word
begins_is base image word low =
    let page : (layout.page_in base (address base image.page word) == image.page) ≡ true = grind (arith, nat_tests, page_in-address base image.page word low) in
    ap (λ (z : Bool × (Bool × ℕ)). (z.0 && z.1.0) && is_start image.sheet z.1.1) (λ i. (is_address-address base image.page word i, (page i, word_in-address base image.page word low i)))

pub no_object : (catalog : List Fields) (sheet : Sheet) (s a : ℕ) → is_start sheet s ≡ false → IsTop (IsObjectNamed catalog sheet s) a a
no_object catalog sheet s a none = top_none (IsObjectNamed catalog sheet s) a (λ p named. false≢true (sym none ∙ named.0))

pub roots_top : (image : PageImage) (a t : ℕ) → image.page ≡ 2 → IsTop (Below (IsSlotNamed image.sheet) 16) a t → IsTop (IsRootNamed image) a t
roots_top image a t roots top = top_same (Below (IsSlotNamed image.sheet) 16) (IsRootNamed image) a t (λ p x. (roots, x)) (λ p x. x.1) top

pub image_top : (catalog : List Fields) (image : PageImage) (a b c d : ℕ) → b ≡ max a (image.page + 1) → IsTop (IsRootNamed image) b c → IsTop (Below (IsObjectNamed catalog image.sheet) 512) c d
    → IsTop (IsNamedOn catalog image) a d
image_top catalog image a b c d is roots objects =
    top_join (λ p. image.page ≡ p) (λ p. IsRootNamed image p ⊎ Below (IsObjectNamed catalog image.sheet) 512 p) a b d (top_one a image.page b is)
    (top_join (IsRootNamed image) (Below (IsObjectNamed catalog image.sheet) 512) b c d roots objects)

same_image : (o : Option PageImage) (x y : PageImage) → o ≡ Some x → o ≡ Some y → y ≡ x
same_image None x y a b = absurd (cc)
same_image (Some z) x y a b = cc

pub page_top : (catalog : List Fields) (images : Images) (q : ℕ) (image : PageImage) (a t : ℕ) → get images q ≡ Some image → IsTop (IsNamedOn catalog image) a t
    → IsTop (IsNamedUnder catalog images q) a t
page_top catalog images q image a t there top =
    top_same (IsNamedOn catalog image) (IsNamedUnder catalog images q) a t (λ p x. (image, there, x))
    (λ p y. subst (λ (i : PageImage). IsNamedOn catalog i p) (same_image (get images q) image y.0 there y.1) y.2) top
