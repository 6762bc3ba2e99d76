-- A new object behind the last one leaves the form of the page.
use Rattle.std.proofs.Common.{◌≡◌, ◌≢◌, ◌⊎◌, ◌<◌, ◌≤◌, ◌+◌, ◌-◌, ◌*◌, ◌/◌, ◌%◌, ◌^◌, ◌||◌, ◌∙◌, inl, inr, ℕ, zero, suc, Bool, true, false, eqb, leb, List, length, get_or, set, replicate, Some, slice_get, refl, sym, ap, subst, arith, length-set, get_or-set_other, get_or-set_same}
use Rattle.std.proofs.lemmas.Bool.{cases_eq, and_from, cond-false, ne_eqb, eq-eqb, lt-ltb, le-leb, false≢true}
use Rattle.std.proofs.lemmas.List.{length-replicate}
use Rattle.std.proofs.Math.Nat.{zero-div}
use Rattle.std.proofs.Math.Bool.{or-true}
use Rattle.pm3_types.specs.Fields.{Fields}
use Rattle.pm3_types.specs.Layout.{Sheet, PageImage, IsLaid, blank_sheet, is_start, type_in, tail_in, size_of, size_at, end_of, used_in, page_head, zeroed, placed}
use Rattle.pm3_types.specs.PageForm.{HasForm, HasObjects, IsReferenceIn, IsTailBytes, is_head_of, is_name, is_padded, is_page_head, is_memory_reference, map_at, tail_at}
use Rattle.pm3_types.proofs.Placings.{placed_laid}
use Rattle.pm3_types.proofs.ZeroedWords.{length-zeroed, zeroed_before, zeroed_within}
use Rattle.pm3_types.proofs.FormedObjects.{reference_within, bytes_within, blank_starts}

get_or-replicate_default : {A : Type 0} → (n : ℕ) (x : A) (k : ℕ) → get_or (replicate n x) k x ≡ x
get_or-replicate_default zero x k = refl
get_or-replicate_default (suc n) x zero = refl
get_or-replicate_default (suc n) x (suc k) = get_or-replicate_default n x k

-- the form of a page of objects, or of none, but for its first word
pub record IsFilled (catalog : List Fields) (refers : ℕ → Bool) (sheet : Sheet) : Type 0 where
  pub second : get_or sheet.words 1 0 ≡ 0
  pub laid : IsLaid catalog sheet
  pub heads : (s : ℕ) (map : Fields) → is_start sheet s ≡ true → map_at catalog sheet s ≡ Some map → is_head_of map (get_or sheet.words s 0) ≡ true
  pub names : (s : ℕ) → is_start sheet s ≡ true → is_name (get_or sheet.words (s + 1) 0) ≡ true
  pub references : (s k : ℕ) → is_start sheet s ≡ true → IsReferenceIn (map_at catalog sheet s) (tail_at sheet s) k → refers (get_or sheet.words (s + 2 + k) 0) ≡ true
  pub padding : (s j k : ℕ) → is_start sheet s ≡ true → IsTailBytes (map_at catalog sheet s) (tail_at sheet s) j k
      → is_padded (tail_at sheet s - 8 * j) (get_or sheet.words (s + 2 + k) 0) ≡ true

padded_zero : (left : ℕ) → is_padded left 0 ≡ true
unfolding is_padded
padded_zero left = ap (λ (b : Bool). leb 8 left || b) (eq-eqb (0 / 2 ^ (8 * left)) 0 (zero-div (2 ^ (8 * left)))) ∙ or-true (leb 8 left)

end_blank : end_of blank_sheet ≡ 2
unfolding used_in
end_blank = refl

no_object : (s : ℕ) → is_start blank_sheet s ≡ true → ⊥
no_object s is = false≢true (sym (blank_starts 512 s) ∙ is)

pub blank_laid : (catalog : List Fields) → IsLaid catalog blank_sheet
blank_laid catalog = record {
  words = length-replicate {A = ℕ} 512 0;
  starts = length-replicate {A = Bool} 512 false;
  end = (omega (arith, end_blank), omega (arith, end_blank));
  first = λ more. absurd (omega (arith, end_blank));
  whole = λ s is. absurd (no_object s is);
  apart = λ s t is. absurd (no_object s is);
  next = λ s is. absurd (no_object s is);
  rest = λ i past. get_or-replicate_default {A = ℕ} 512 0 i;
}

blank_filled : (catalog : List Fields) (refers : ℕ → Bool) → IsFilled catalog refers blank_sheet
blank_filled catalog refers = record {
  second = get_or-replicate_default {A = ℕ} 512 0 1;
  laid = blank_laid catalog;
  heads = λ s map is. absurd (no_object s is);
  names = λ s is. absurd (no_object s is);
  references = λ s k is. absurd (no_object s is);
  padding = λ s j k is. absurd (no_object s is);
}

pub filled : (catalog : List Fields) (refers : ℕ → Bool) (page : ℕ) (sheet : Sheet) → (sheet ≡ blank_sheet) ⊎ HasObjects catalog refers page sheet → IsFilled catalog refers sheet
filled catalog refers page sheet (inl blank) = subst (IsFilled catalog refers) (sym blank) (blank_filled catalog refers)
filled catalog refers page sheet (inr form) = record {
  second = form.second;
  laid = form.laid;
  heads = form.heads;
  names = form.names;
  references = form.references;
  padding = form.padding;
}

page_head_form : (page used : ℕ) → page ≢ 2 → page < 2 ^ 32 → 2 < used → used ≤ 512 → is_page_head page (page_head page used) ≡ true
unfolding is_page_head page_head used_in
page_head_form page used apart low more most =
    let upper : (page + 2 ^ 32 * used) / 2 ^ 32 ≡ used = omega arith in
    cond-false (eqb page 2) _ _ (ne_eqb page 2 apart)
    ∙ and_from _ _ (eq-eqb ((page + 2 ^ 32 * used) % 2 ^ 32) page (omega arith)) (and_from _ _ (lt-ltb 2 ((page + 2 ^ 32 * used) / 2 ^ 32) (omega arith)) (le-leb ((page + 2 ^ 32 * used) / 2 ^ 32) 512 (omega arith)))

module _ (catalog : List Fields) (refers : ℕ → Bool) (page : ℕ) (sheet : Sheet) (size head name : ℕ) (form : IsFilled catalog refers sheet) (apart : page ≢ 2)
    (low : page < 2 ^ 32) (two : 2 ≤ size) (fits : end_of sheet + size ≤ 512) (sized : size_of catalog head ≡ size)
    (headed : (map : Fields) → slice_get catalog (type_in head) ≡ Some map → is_head_of map head ≡ true) (named : is_name name ≡ true) (nil : refers 0 ≡ true) where
  abbrev pub now : Sheet
  now = placed page sheet size head name

  abbrev pub cleared : List ℕ
  cleared = zeroed sheet.words (end_of sheet) (end_of sheet + size)

  pub begin : 2 ≤ end_of sheet
  begin = form.laid.end.0

  pub all : length cleared ≡ 512
  all = length-zeroed sheet.words (end_of sheet) (end_of sheet + size) (omega arith) (omega (arith, form.laid.words)) ∙ form.laid.words

  abbrev pub with_first : List ℕ
  with_first = set cleared 0 (page_head page (end_of sheet + size))

  abbrev pub with_head : List ℕ
  with_head = set with_first (end_of sheet) head

  -- a word that is neither the page's first nor the object's first two
  other_word : (i : ℕ) → i ≢ 0 → i ≢ end_of sheet → i ≢ end_of sheet + 1 → get_or now.words i 0 ≡ get_or cleared i 0
  other_word i a b c =
      get_or-set_other with_head (end_of sheet + 1) i name 0 c ∙ get_or-set_other with_first (end_of sheet) i head 0 b
      ∙ get_or-set_other cleared 0 i (page_head page (end_of sheet + size)) 0 a

  pub before : (i : ℕ) → 0 < i → i < end_of sheet → get_or now.words i 0 ≡ get_or sheet.words i 0
  before i some below =
      other_word i (λ e. omega arith) (λ e. omega arith) (λ e. omega arith)
      ∙ zeroed_before sheet.words (end_of sheet) (end_of sheet + size) (omega arith) (omega (arith, form.laid.words)) i below

  pub inside : (i : ℕ) → end_of sheet + 2 ≤ i → i < end_of sheet + size → get_or now.words i 0 ≡ 0
  inside i from until =
      other_word i (λ e. omega arith) (λ e. omega arith) (λ e. omega arith)
      ∙ zeroed_within sheet.words (end_of sheet) (end_of sheet + size) (omega arith) (omega (arith, form.laid.words)) i (omega arith) until

  pub at_name : get_or now.words (end_of sheet + 1) 0 ≡ name
  at_name = get_or-set_same with_head (end_of sheet + 1) name 0
      (omega (arith, length-set with_first (end_of sheet) head, length-set cleared 0 (page_head page (end_of sheet + size)), all))

  pub at_head : get_or now.words (end_of sheet) 0 ≡ head
  at_head =
      get_or-set_other with_head (end_of sheet + 1) (end_of sheet) name 0 (λ e. omega arith)
      ∙ get_or-set_same with_first (end_of sheet) head 0 (omega (arith, length-set cleared 0 (page_head page (end_of sheet + size)), all))

  pub first_word : get_or now.words 0 0 ≡ page_head page (end_of sheet + size)
  first_word =
      get_or-set_other with_head (end_of sheet + 1) 0 name 0 (λ e. omega arith)
      ∙ get_or-set_other with_first (end_of sheet) 0 head 0 (λ e. (let b = begin in omega arith))
      ∙ get_or-set_same cleared 0 (page_head page (end_of sheet + size)) 0 (omega (arith, all))

  was : (t : ℕ) → is_start now t ≡ true → t ≢ end_of sheet → is_start sheet t ≡ true
  was t is away = sym (get_or-set_other sheet.starts (end_of sheet) t true false away) ∙ is

  head_before : (t : ℕ) → is_start sheet t ≡ true → get_or now.words t 0 ≡ get_or sheet.words t 0
  head_before t is = let whole = form.laid.whole t is in before t (omega (arith, whole.0)) (omega (arith, whole.1, whole.2))

  name_before : (t : ℕ) → is_start sheet t ≡ true → get_or now.words (t + 1) 0 ≡ get_or sheet.words (t + 1) 0
  name_before t is = let whole = form.laid.whole t is in before (t + 1) (omega arith) (omega (arith, whole.1, whole.2))

  -- a word of the body of the object at the end
  body_here : (t k : ℕ) → t ≡ end_of sheet → 2 + k < size_at catalog now t → get_or now.words (t + 2 + k) 0 ≡ 0
  body_here t k e within =
      let here : size_at catalog now t ≡ size = ap (size_of catalog) (ap (λ (u : ℕ). get_or now.words u 0) e ∙ at_head) ∙ sized in
      inside (t + 2 + k) (omega arith) (omega (arith, here))

  body_before : (t k : ℕ) → is_start sheet t ≡ true → 2 + k < size_at catalog sheet t → get_or now.words (t + 2 + k) 0 ≡ get_or sheet.words (t + 2 + k) 0
  body_before t k is within = let whole = form.laid.whole t is in before (t + 2 + k) (omega arith) (omega (arith, whole.2))

  references : (t k : ℕ) → is_start now t ≡ true → IsReferenceIn (map_at catalog now t) (tail_at now t) k → refers (get_or now.words (t + 2 + k) 0) ≡ true
  references t k is item = elim (cases_eq t (end_of sheet)) [
    | inl e ↦ ap refers (body_here t k e (reference_within (map_at catalog now t) (tail_at now t) k item)) ∙ nil
    | inr away ↦ (let old = was t is away in
        let own = subst (λ (h : ℕ). IsReferenceIn (slice_get catalog (type_in h)) (tail_in h) k) (head_before t old) item in
        ap refers (body_before t k old (reference_within (map_at catalog sheet t) (tail_at sheet t) k own)) ∙ form.references t k old own)
  ]

  padding : (t j k : ℕ) → is_start now t ≡ true → IsTailBytes (map_at catalog now t) (tail_at now t) j k → is_padded (tail_at now t - 8 * j) (get_or now.words (t + 2 + k) 0) ≡ true
  padding t j k is item = elim (cases_eq t (end_of sheet)) [
    | inl e ↦ ap (is_padded (tail_at now t - 8 * j)) (body_here t k e (bytes_within (map_at catalog now t) (tail_at now t) j k item)) ∙ padded_zero (tail_at now t - 8 * j)
    | inr away ↦ (let old = was t is away in
        let own = subst (λ (h : ℕ). IsTailBytes (slice_get catalog (type_in h)) (tail_in h) j k) (head_before t old) item in
        ap (λ (h : ℕ). is_padded (tail_in h - 8 * j) (get_or now.words (t + 2 + k) 0)) (head_before t old)
        ∙ ap (is_padded (tail_at sheet t - 8 * j)) (body_before t k old (bytes_within (map_at catalog sheet t) (tail_at sheet t) j k own)) ∙ form.padding t j k old own)
  ]

  heads : (t : ℕ) (map : Fields) → is_start now t ≡ true → map_at catalog now t ≡ Some map → is_head_of map (get_or now.words t 0) ≡ true
  heads t map is there = elim (cases_eq t (end_of sheet)) [
    | inl e ↦ (let own : get_or now.words t 0 ≡ head = ap (λ (u : ℕ). get_or now.words u 0) e ∙ at_head in
        ap (is_head_of map) own ∙ headed map (sym (ap (λ (h : ℕ). slice_get catalog (type_in h)) own) ∙ there))
    | inr away ↦ (let old = was t is away in let same = head_before t old in
        ap (is_head_of map) same ∙ form.heads t map old (sym (ap (λ (h : ℕ). slice_get catalog (type_in h)) same) ∙ there))
  ]

  names : (t : ℕ) → is_start now t ≡ true → is_name (get_or now.words (t + 1) 0) ≡ true
  names t is = elim (cases_eq t (end_of sheet)) [
    | inl e ↦ ap is_name (ap (λ (u : ℕ). get_or now.words (u + 1) 0) e ∙ at_name) ∙ named
    | inr away ↦ (let old = was t is away in ap is_name (name_before t old) ∙ form.names t old)
  ]

  pub objects_placed : HasObjects catalog refers page (placed page sheet size head name)
  objects_placed = record {
    head = ap (is_page_head page) first_word ∙ page_head_form page (end_of sheet + size) apart low (let b = begin in omega arith) fits;
    second = before 1 (omega arith) (let b = begin in omega arith) ∙ form.second;
    laid = placed_laid catalog page sheet size head name form.laid low two fits sized;
    heads = heads;
    names = names;
    references = references;
    padding = padding;
  }

-- nil is a reference
pub nil_refers : (base pages : ℕ) → is_memory_reference base pages 0 ≡ true
unfolding is_memory_reference
nil_refers base pages = refl

-- a page that isn't that of roots has its form with one more object
pub form_placed : (catalog : List Fields) (refers : ℕ → Bool) (image : PageImage) (size head name : ℕ) → refers 0 ≡ true → HasForm catalog refers image.page image.sheet → image.page ≢ 2 → image.page < 2 ^ 32 → 2 ≤ size
    → end_of image.sheet + size ≤ 512 → size_of catalog head ≡ size → ((map : Fields) → slice_get catalog (type_in head) ≡ Some map → is_head_of map head ≡ true) → is_name name ≡ true
    → HasForm catalog refers image.page (placed image.page image.sheet size head name)
form_placed catalog refers image size head name nil form apart low two fits sized headed named = record {
  roots = λ e. absurd (apart e);
  objects = λ away. inr (objects_placed catalog refers image.page image.sheet size head name
      (filled catalog refers image.page image.sheet (form.objects apart)) apart low two fits sized headed named nil);
}
