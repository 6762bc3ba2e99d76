-- What is found by one loop after another: the places of an object, the objects of an image, the images.
use Rattle.std.proofs.Common.{◌≡◌, ◌≢◌, ℕ, ◌+◌, ◌<◌, ◌≤◌, ◌⊎◌, Bool, true, false, List, Option, slice_index, sym, ap, subst, ◌∙◌, arith, inl, inr}
use Rattle.std.proofs.lemmas.Bool.{cases_lt, cases_eq, false≢true}
use Rattle.std.specs.List.{Contains}
use Rattle.pm3_types.specs.Fields.{Fields}
use Rattle.pm3_types.specs.Layout.{Sheet, PageImage, begins_at}
use Rattle.pm3_types.specs.PageForm.{IsReferenceIn, map_at, tail_at}
use Rattle.pm3_types.proofs.Addressing as addressing
use Rattle.pm3_copy.specs.Finds.{Finds, Adds}
use Rattle.pm3_copy.specs.References.{RefersIn, RootsOn, ObjectsOn, RefersOn}
use Rattle.pm3_copy.proofs.Adding.{adds_none, adds_then, adds_as}
use Rattle.pm3_types.proofs.FormedObjects.{address_of}

-- one of the first n places of an object has this word
pub record RefersBelow (catalog : List Fields) (sheet : Sheet) (s n b : ℕ) : Type 0 where
  pub place : ℕ
  pub low : place < n
  pub reference : IsReferenceIn (map_at catalog sheet s) (tail_at sheet s) place
  pub is : slice_index sheet.words (s + 2 + place) ≡ b

module _ (catalog : List Fields) (sheet : Sheet) (s : ℕ) where
  pub places_none : (found : Finds) → Adds (RefersBelow catalog sheet s 0) found found
  places_none found = adds_none (RefersBelow catalog sheet s 0) found (λ b there r. omega (arith, r.low))

module _ (catalog : List Fields) (sheet : Sheet) (s : ℕ) (o : Option Fields) (len : ℕ) (map_is : o ≡ map_at catalog sheet s) (len_is : len ≡ tail_at sheet s) where
  to : (k : ℕ) → IsReferenceIn o len k → IsReferenceIn (map_at catalog sheet s) (tail_at sheet s) k
  to k is = (let P : ℕ → Type 0 = λ l. IsReferenceIn (map_at catalog sheet s) l k in subst P len_is (let Q : Option Fields → Type 0 = λ m. IsReferenceIn m len k in subst Q map_is is))

  back : (k : ℕ) → IsReferenceIn (map_at catalog sheet s) (tail_at sheet s) k → IsReferenceIn o len k
  back k is = (let Q : Option Fields → Type 0 = λ m. IsReferenceIn m len k in subst Q (sym map_is) (let P : ℕ → Type 0 = λ l. IsReferenceIn (map_at catalog sheet s) l k in subst P (sym len_is) is))

  -- the next reference of the object
  pub places_more : (n place : ℕ) (old now new : Finds) → n ≤ place → IsReferenceIn o len place → ((k : ℕ) → n ≤ k → k < place → IsReferenceIn o len k → ⊥)
      → Adds (RefersBelow catalog sheet s n) old now → Adds (λ b. slice_index sheet.words (s + 2 + place) ≡ b) now new → Adds (RefersBelow catalog sheet s (place + 1)) old new
  places_more n place old now new from is between first second =
      adds_then (RefersBelow catalog sheet s n) (λ b. slice_index sheet.words (s + 2 + place) ≡ b) (RefersBelow catalog sheet s (place + 1)) old now new first second
      (λ b there r. parts b r) (λ b r. record { place = r.place; low = omega (arith, r.low, from); reference = r.reference; is = r.is })
      (λ b e. record { place = place; low = omega arith; reference = to place is; is = e })
    where
      parts : (b : ℕ) → RefersBelow catalog sheet s (place + 1) b → RefersBelow catalog sheet s n b ⊎ (slice_index sheet.words (s + 2 + place) ≡ b)
      parts b r = elim (cases_lt r.place n) [
        | inl before ↦ inl (record { place = r.place; low = before; reference = r.reference; is = r.is })
        | inr behind ↦ elim (cases_eq r.place place) [
          | inl same ↦ inr (ap (λ k. slice_index sheet.words (s + 2 + k)) (sym same) ∙ r.is)
          | inr apart ↦ absurd (between r.place behind (omega (arith, r.low)) (back r.place r.reference))
        ]
      ]

  -- there is none behind it
  pub places_all : (n : ℕ) (old new : Finds) → ((k : ℕ) → n ≤ k → IsReferenceIn o len k → ⊥) → Adds (RefersBelow catalog sheet s n) old new → Adds (RefersIn catalog sheet s) old new
  places_all n old new past adds =
      adds_as (RefersBelow catalog sheet s n) (RefersIn catalog sheet s) old new adds
      (λ b there r. record { place = r.place; low = low r.place r.reference; reference = r.reference; is = r.is })
      (λ b r. record { place = r.place; reference = r.reference; is = r.is })
    where
      low : (k : ℕ) → IsReferenceIn (map_at catalog sheet s) (tail_at sheet s) k → k < n
      low k item = elim (cases_lt k n) [ inl before ↦ before | inr behind ↦ absurd (past k behind (back k item)) ]

-- one of the objects of an image up to an address leads there
pub record LeadsUpTo (base : ℕ) (image : PageImage) (Leads : ℕ → ℕ → Type 0) (at b : ℕ) : Type 0 where
  pub from : ℕ
  pub low : from ≤ at
  pub begins : begins_at base image from ≡ true
  pub leads : Leads from b

module _ (base : ℕ) (image : PageImage) (Leads : ℕ → ℕ → Type 0) where
  pub objects_none : (found : Finds) → 0 < base → Adds (LeadsUpTo base image Leads 0) found found
  objects_none found more = adds_none (LeadsUpTo base image Leads 0) found
      (λ b there r. (let low = addressing.above_base base r.from (address_of base image r.from r.begins) in omega (arith, r.low)))

  pub objects_more : (at next : ℕ) (old now new : Finds) → at < next → begins_at base image next ≡ true → ((m : ℕ) → at < m → m < next → begins_at base image m ≡ false)
      → Adds (LeadsUpTo base image Leads at) old now → Adds (Leads next) now new → Adds (LeadsUpTo base image Leads next) old new
  objects_more at next old now new less is between first second =
      adds_then (LeadsUpTo base image Leads at) (Leads next) (LeadsUpTo base image Leads next) old now new first second parts
      (λ b r. record { from = r.from; low = omega (arith, r.low); begins = r.begins; leads = r.leads })
      (λ b l. record { from = next; low = omega arith; begins = is; leads = l })
    where
      parts : (b : ℕ) → Contains old.objects b → LeadsUpTo base image Leads next b → LeadsUpTo base image Leads at b ⊎ Leads next b
      parts b there r = elim (cases_lt at r.from) [
        | inr low ↦ inl (record { from = r.from; low = low; begins = r.begins; leads = r.leads })
        | inl above ↦ elim (cases_lt r.from next) [
          | inl below ↦ absurd (false≢true (sym (between r.from above below) ∙ r.begins))
          | inr high ↦ inr (let e : r.from ≡ next = omega (arith, r.low) in let P : ℕ → Type 0 = λ a. Leads a b in subst P e r.leads)
        ]
      ]

  pub objects_all : (P : ℕ → Type 0) (at : ℕ) (old new : Finds) → ((b : ℕ) → at < b → begins_at base image b ≡ false) → ((b : ℕ) → P b → (a : ℕ) × (begins_at base image a ≡ true) × Leads a b)
      → ((a b : ℕ) → begins_at base image a ≡ true → Leads a b → P b) → Adds (LeadsUpTo base image Leads at) old new → Adds P old new
  objects_all P at old new past back on adds =
      adds_as (LeadsUpTo base image Leads at) P old new adds
      (λ b there p. (let r = back b p in record { from = r.0; low = at_most r.0 r.1; begins = r.1; leads = r.2 }))
      (λ b r. on r.from b r.begins r.leads)
    where
      at_most : (a : ℕ) → begins_at base image a ≡ true → a ≤ at
      at_most a is = elim (cases_lt at a) [ inl above ↦ absurd (false≢true (sym (past a above) ∙ is)) | inr low ↦ low ]

-- one of the pages of a set below a number leads there
pub record LeadsBelow (has : ℕ → Bool) (Leads : ℕ → ℕ → Type 0) (n b : ℕ) : Type 0 where
  pub page : ℕ
  pub low : page < n
  pub there : has page ≡ true
  pub leads : Leads page b

module _ (has : ℕ → Bool) (Leads : ℕ → ℕ → Type 0) where
  pub pages_none : (found : Finds) → Adds (LeadsBelow has Leads 0) found found
  pages_none found = adds_none (LeadsBelow has Leads 0) found (λ b there r. omega (arith, r.low))

  pub pages_more : (n page : ℕ) (old now new : Finds) → n ≤ page → has page ≡ true → ((q : ℕ) → n ≤ q → q < page → has q ≡ false)
      → Adds (LeadsBelow has Leads n) old now → Adds (Leads page) now new → Adds (LeadsBelow has Leads (page + 1)) old new
  pages_more n page old now new low is between first second =
      adds_then (LeadsBelow has Leads n) (Leads page) (LeadsBelow has Leads (page + 1)) old now new first second parts
      (λ b r. record { page = r.page; low = omega (arith, r.low); there = r.there; leads = r.leads })
      (λ b l. record { page = page; low = omega arith; there = is; leads = l })
    where
      parts : (b : ℕ) → Contains old.objects b → LeadsBelow has Leads (page + 1) b → LeadsBelow has Leads n b ⊎ Leads page b
      parts b there r = elim (cases_lt r.page n) [
        | inl before ↦ inl (record { page = r.page; low = before; there = r.there; leads = r.leads })
        | inr behind ↦ elim (cases_eq r.page page) [
          | inl same ↦ inr (let P : ℕ → Type 0 = λ p. Leads p b in subst P same r.leads)
          | inr apart ↦ absurd (false≢true (sym (between r.page behind (omega (arith, r.low))) ∙ r.there))
        ]
      ]

  pub pages_all : (P : ℕ → Type 0) (n : ℕ) (old new : Finds) → ((q : ℕ) → n ≤ q → has q ≡ false) → ((b : ℕ) → P b → (p : ℕ) × (has p ≡ true) × Leads p b)
      → ((p b : ℕ) → has p ≡ true → Leads p b → P b) → Adds (LeadsBelow has Leads n) old new → Adds P old new
  pages_all P n old new past back on adds =
      adds_as (LeadsBelow has Leads n) P old new adds
      (λ b there p. (let r = back b p in record { page = r.0; low = at_most r.0 r.1; there = r.1; leads = r.2 }))
      (λ b r. on r.page b r.there r.leads)
    where
      at_most : (p : ℕ) → has p ≡ true → p < n
      at_most p is = elim (cases_lt p n) [ inl low ↦ low | inr behind ↦ absurd (false≢true (sym (past p behind) ∙ is)) ]

-- an image refers to things by its root slots, or by its objects
pub by_roots : (catalog : List Fields) (base : ℕ) (image : PageImage) (old new : Finds) → image.page ≡ 2 → Adds (RootsOn image) old new → Adds (RefersOn catalog base image) old new
by_roots catalog base image old new is adds = adds_as (RootsOn image) (RefersOn catalog base image) old new adds back (λ b r. inl (is, r))
  where
    back : (b : ℕ) → Contains old.objects b → RefersOn catalog base image b → RootsOn image b
    back b there (inl r) = r.1
    back b there (inr r) = absurd (r.0 is)

pub by_objects : (catalog : List Fields) (base : ℕ) (image : PageImage) (old new : Finds) → image.page ≢ 2 → Adds (ObjectsOn catalog base image) old new → Adds (RefersOn catalog base image) old new
by_objects catalog base image old new apart adds = adds_as (ObjectsOn catalog base image) (RefersOn catalog base image) old new adds back (λ b r. inr (apart, r))
  where
    back : (b : ℕ) → Contains old.objects b → RefersOn catalog base image b → ObjectsOn catalog base image b
    back b there (inl r) = absurd (apart r.0)
    back b there (inr r) = r.1
