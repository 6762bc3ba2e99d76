-- The references of all objects of a page are renamed, object by object.
use Rattle.std.proofs.Common.{◌≡◌, ◌≢◌, ◌<◌, ◌≤◌, ◌+◌, ◌∙◌, ◌⊎◌, inl, inr, ℕ, true, false, List, get_or, slice_get, slice_index_or, refl, sym, ap, subst, arith}
use Rattle.std.proofs.lemmas.Bool.{cases_eq, cases_lt, false≢true}
use Rattle.pm3_types.specs.Fields.{Fields}
use Rattle.pm3_types.specs.Layout.{Sheet, PageImage, IsLaid, begins_at, is_start, is_forwarded, page_in, word_in, size_at, size_of, type_in, tail_in, address}
use Rattle.pm3_types.specs.PageForm.{IsSound, IsReferenceIn, is_memory_reference, is_head_of, is_name, map_at, tail_at}
use Rattle.pm3_types.proofs.Addressing as addressing
use Rattle.pm3_copy.specs.Renaming.{IsRenamed, IsPlaceOf, IsPlaceIn}
use Rattle.pm3_types.specs.Whole.{IsWhole}
use Rattle.pm3_types.proofs.FormedObjects.{reference_within}
use Rattle.pm3_copy.proofs.Renamed.{renamed_none, renamed_then, renamed_as}
use Rattle.pm3_types.proofs.FormedObjects.{start_of, begins, address_of, page_is, whole_start, objects_of}

-- a reference of an object up to an address
pub record IsPlaceUpTo (catalog : List Fields) (base : ℕ) (image : PageImage) (at i : ℕ) : Type 0 where
  pub from : ℕ
  pub low : from ≤ at
  pub begins : begins_at base image from ≡ true
  pub place : IsPlaceOf catalog image.sheet (word_in base from) i

module _ (catalog : List Fields) (base : ℕ) (image : PageImage) (sound : IsSound catalog base 16384 image) where
  laid_of : (s : ℕ) → is_start image.sheet s ≡ true → IsLaid catalog image.sheet
  laid_of s start = (objects_of catalog (is_memory_reference base 16384) image.page image.sheet s sound start).1.laid

  -- a place lies in its object, behind its name
  pub within : (s i : ℕ) → IsPlaceOf catalog image.sheet s i → (s + 2 ≤ i) × (i < s + size_at catalog image.sheet s)
  within s i p = (let low = reference_within (map_at catalog image.sheet s) (tail_at image.sheet s) p.place p.reference in (omega (arith, p.is), omega (arith, p.is)))

  -- an object lies before another, or behind it
  pub behind : (s u : ℕ) → is_start image.sheet s ≡ true → is_start image.sheet u ≡ true → s < u → s + size_at catalog image.sheet s ≤ u
  behind s u start other less = elim (cases_lt u (s + size_at catalog image.sheet s)) [
    | inl inside ↦ absurd (false≢true (sym ((laid_of s start).apart s u start less inside) ∙ other))
    | inr past ↦ past
  ]

  -- heads and names are no references
  pub no_head : (s u i : ℕ) → is_start image.sheet s ≡ true → is_start image.sheet u ≡ true → IsPlaceOf catalog image.sheet u i → (i ≢ s) × (i ≢ s + 1)
  no_head s u i start other p = elim (cases_eq s u) [
    | inl same ↦ (let w = within u i p in (λ e. omega (arith, w.0), λ e. omega (arith, w.0)))
    | inr apart ↦ elim (cases_lt s u) [
      | inl before ↦ (let w = within u i p in let b = behind s u start other before in let two = ((laid_of s start).whole s start).1 in (λ e. omega (arith, w.0), λ e. omega (arith, w.0)))
      | inr past ↦ (let w = within u i p in let b = behind u s other start (omega arith) in (λ e. omega (arith, w.1), λ e. omega (arith, w.1)))
    ]
  ]

  -- no word is a reference of two objects
  pub one_object : (s u i : ℕ) → is_start image.sheet s ≡ true → is_start image.sheet u ≡ true → s ≢ u → IsPlaceOf catalog image.sheet s i → IsPlaceOf catalog image.sheet u i → ⊥
  one_object s u i start other apart p q = elim (cases_lt s u) [
    | inl before ↦ (let a = within s i p in let b = within u i q in let c = behind s u start other before in omega (arith, a.1, b.0))
    | inr past ↦ (let a = within s i p in let b = within u i q in let c = behind u s other start (omega arith) in omega (arith, a.0, b.1))
  ]

  module _ (to : ℕ → ℕ) where
    pub upto_none : 0 < base → IsRenamed (IsPlaceUpTo catalog base image 0) to image.sheet image.sheet
    upto_none more = renamed_none _ to image.sheet (λ i p. (let low = addressing.above_base base p.from (address_of base image p.from p.begins) in omega (arith, p.low)))

    module _ (at : ℕ) (now : PageImage) (page : now.page ≡ image.page) (so_far : IsRenamed (IsPlaceUpTo catalog base image at) to image.sheet now.sheet) (next : ℕ) (is : begins_at base now next ≡ true) where
      start_now : is_start now.sheet (word_in base next) ≡ true
      start_now = start_of base now next is

      pub start_was : is_start image.sheet (word_in base next) ≡ true
      start_was = sym (ap (λ xs. slice_index_or xs (word_in base next) false) so_far.starts) ∙ start_now

      pub began : begins_at base image next ≡ true
      began = begins base image next (address_of base now next is) (page_is base now next is ∙ page) start_was

      head_same : get_or now.sheet.words (word_in base next) 0 ≡ get_or image.sheet.words (word_in base next) 0
      head_same = so_far.others (word_in base next) (λ p. (no_head (word_in base next) (word_in base p.from) (word_in base next) start_was (start_of base image p.from p.begins) p.place).0 refl)

      name_same : get_or now.sheet.words (word_in base next + 1) 0 ≡ get_or image.sheet.words (word_in base next + 1) 0
      name_same = so_far.others (word_in base next + 1) (λ p. (no_head (word_in base next) (word_in base p.from) (word_in base next + 1) start_was (start_of base image p.from p.begins) p.place).1 refl)

      pub whole_now : IsWhole catalog now.sheet (word_in base next)
      whole_now = (let whole = whole_start catalog (is_memory_reference base 16384) image.page image.sheet (word_in base next) sound start_was in let size = ap (size_of catalog) head_same in record {
        fields = whole.fields;
        of = ap (λ h. slice_get catalog (type_in h)) head_same ∙ whole.of;
        begins = start_now;
        low = whole.low;
        size = omega (arith, size, whole.size);
        within = omega (arith, size, whole.within);
        unmoved = ap is_forwarded head_same ∙ whole.unmoved;
        head = ap (is_head_of whole.fields) head_same ∙ whole.head;
        name = ap is_name name_same ∙ whole.name;
      })

      pub upto_more : (new : Sheet) → at < next → ((m : ℕ) → at < m → m < next → begins_at base now m ≡ false) → IsRenamed (IsPlaceOf catalog now.sheet (word_in base next)) to now.sheet new
          → IsRenamed (IsPlaceUpTo catalog base image next) to image.sheet new
      upto_more new less between step =
          renamed_then (IsPlaceUpTo catalog base image at) (IsPlaceOf catalog image.sheet (word_in base next)) (IsPlaceUpTo catalog base image next) to image.sheet now.sheet new so_far
          (renamed_as (IsPlaceOf catalog now.sheet (word_in base next)) (IsPlaceOf catalog image.sheet (word_in base next)) to now.sheet new step (λ i p. over i (sym head_same) p) (λ i p. over i head_same p))
          (λ i p q. one_object (word_in base p.from) (word_in base next) i (start_of base image p.from p.begins) start_was (other p) p.place q)
          parts
          (λ i p. record { from = p.from; low = omega (arith, p.low); begins = p.begins; place = p.place })
          (λ i q. record { from = next; low = omega arith; begins = began; place = q })
        where
          over : {a b : Sheet} (i : ℕ) → get_or a.words (word_in base next) 0 ≡ get_or b.words (word_in base next) 0 → IsPlaceOf catalog a (word_in base next) i → IsPlaceOf catalog b (word_in base next) i
          over {a} {b} i e p = record {
            place = p.place;
            reference = (let P : ℕ → Type 0 = λ h. IsReferenceIn (slice_get catalog (type_in h)) (tail_in h) p.place in subst P e p.reference);
            is = p.is;
          }

          -- two objects of one page at different addresses begin at different words
          other : {i : ℕ} (p : IsPlaceUpTo catalog base image at i) → word_in base p.from ≢ word_in base next
          other p e =
              let a = addressing.address_of base p.from (address_of base image p.from p.begins) in
              let b = addressing.address_of base next (address_of base now next is) in
              let pages : page_in base p.from ≡ page_in base next = page_is base image p.from p.begins ∙ sym page ∙ sym (page_is base now next is) in
              let same : p.from ≡ next = sym a ∙ ap (λ q. address base q (word_in base p.from)) pages ∙ ap (address base (page_in base next)) e ∙ b in
              omega (arith, p.low, same)

          still : (m : ℕ) → begins_at base image m ≡ true → begins_at base now m ≡ true
          still m is_ = begins base now m (address_of base image m is_) (page_is base image m is_ ∙ sym page) (ap (λ xs. slice_index_or xs (word_in base m) false) so_far.starts ∙ start_of base image m is_)

          parts : (i : ℕ) → IsPlaceUpTo catalog base image next i → IsPlaceUpTo catalog base image at i ⊎ IsPlaceOf catalog image.sheet (word_in base next) i
          parts i p = elim (cases_lt at p.from) [
            | inr low ↦ inl (record { from = p.from; low = low; begins = p.begins; place = p.place })
            | inl above ↦ elim (cases_lt p.from next) [
              | inl below ↦ absurd (false≢true (sym (between p.from above below) ∙ still p.from p.begins))
              | inr high ↦ inr (let e : p.from ≡ next = omega (arith, p.low) in subst (λ a. IsPlaceOf catalog image.sheet (word_in base a) i) e p.place)
            ]
          ]

    pub upto_all : (at : ℕ) (now : PageImage) → now.page ≡ image.page → IsRenamed (IsPlaceUpTo catalog base image at) to image.sheet now.sheet → ((b : ℕ) → at < b → begins_at base now b ≡ false)
        → IsRenamed (IsPlaceIn catalog image.sheet) to image.sheet now.sheet
    upto_all at now page so_far past =
        renamed_as (IsPlaceUpTo catalog base image at) (IsPlaceIn catalog image.sheet) to image.sheet now.sheet so_far back
        (λ i p. record { from = word_in base p.from; start = start_of base image p.from p.begins; at = p.place })
      where
        back : (i : ℕ) → IsPlaceIn catalog image.sheet i → IsPlaceUpTo catalog base image at i
        back i p =
            let low : p.from < 512 = (let w = whole_start catalog (is_memory_reference base 16384) image.page image.sheet p.from sound p.start in omega (arith, w.within, w.size)) in
            let a = address base image.page p.from in
            let word : word_in base a ≡ p.from = addressing.word_in-address base image.page p.from low in
            let on : begins_at base image a ≡ true =
            begins base image a (addressing.is_address-address base image.page p.from) (addressing.page_in-address base image.page p.from low) (ap (is_start image.sheet) word ∙ p.start) in
            let on_now : begins_at base now a ≡ true =
            begins base now a (addressing.is_address-address base image.page p.from) (addressing.page_in-address base image.page p.from low ∙ sym page)
            (ap (λ xs. slice_index_or xs (word_in base a) false) so_far.starts ∙ ap (is_start image.sheet) word ∙ p.start) in
            record {
              from = a;
              low = elim (cases_lt at a) [ inl above ↦ absurd (false≢true (sym (past a above) ∙ on_now)) | inr below ↦ below ];
              begins = on;
              place = subst (λ s. IsPlaceOf catalog image.sheet s i) (sym word) p.at;
            }
