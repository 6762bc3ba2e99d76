-- Images that show a part of a graph with all that it names, and the roots, show all that the graph's roots reach.
use Rattle.std.proofs.Common.{◌≡◌, ◌≢◌, ◌<◌, ◌+◌, ◌∙◌, inl, inr, ℕ, true, List, Option, Some, None, IsSome, is_some, unwrap_or, sym, ap, subst, arith}
use Rattle.std.specs.Prelude.{◌==◌, slice_index, Contains}
use Rattle.std.specs.FinMap.{get}
use Rattle.std.proofs.lemmas.Bool.{cases_eq, cond-false, ne_eqb}
use Rattle.pm3_types.specs.Fields.{Fields}
use Rattle.pm3_types.specs.Graph.{Part, PartOf}
use Rattle.pm3_types.specs.Layout.{Sheet, page_in, word_in}
use Rattle.pm3_types.specs.Places.{Refers}
use Rattle.pm3_types.specs.Reached.{Reached, root, next}
use Rattle.pm3_types.specs.ReachedLaws.{AgreesOnReached}
use Rattle.pm3_types.specs.Record.{Record}
use Rattle.pm3_types.specs.Shown.{Book, Images, IsKnown, FitsImages, name_by, record_at, list_of, roots_in, shown_records, shown}
use Rattle.pm3_types.proofs.Books.{shown_from}
use Rattle.pm3_history.proofs.Laying.{some_of, one_value, there_none}
use Rattle.pm3_history.proofs.Referring.{refers_word, list_of-item, list_of-length}
use Rattle.pm3_history.proofs.Replacing.{object_shown}

module _ (catalog : List Fields) (base : ℕ) (book : Book) (images : Images) (g : Part) (fits : FitsImages catalog base book images)
    (placed : (a n : ℕ) → get book a ≡ Some n → is_some (get images (page_in base a)) ≡ true) (rooted : is_some (get images 2) ≡ true)
    (part : PartOf (shown catalog base book images) g) (no_nil : get g.records 0 ≡ None) where
  -- the name for which a known word stands is shown, if it is there
  name_shown : (w n : ℕ) → IsKnown book w → name_by book w ≡ n → IsSome (get g.records n) → is_some (get (shown_records catalog base book images) n) ≡ true
  name_shown w n known named there = elim (cases_eq w 0) [
    | inl e ↦ nil e
    | inr more ↦ by more known
  ]
    where
      nil : w ≡ 0 → is_some (get (shown_records catalog base book images) n) ≡ true
      nil e =
          let zero_is : 0 ≡ n = sym (ap (name_by book) e) ∙ named in
          absurd (there_none (get g.records n) there (ap (get g.records) (sym zero_is) ∙ no_nil))

      by : w ≢ 0 → IsKnown book w → is_some (get (shown_records catalog base book images) n) ≡ true
      by more (inl e) = absurd (more e)
      by more (inr is) =
          let has = some_of (get book w) is in
          let name_is : has.0 ≡ n = sym (cond-false (w == 0) 0 (unwrap_or (get book w) 0) (ne_eqb w 0 more) ∙ ap (λ (o : Option ℕ). unwrap_or o 0) has.1) ∙ named in
          ap is_some (ap (get (shown_records catalog base book images)) (sym name_is) ∙ (object_shown catalog base book images w has.0 fits (placed w has.0 has.1) has.1).2)

  root_names : (sheet : Sheet) → List ℕ
  root_names sheet = list_of 16 (λ slot. name_by book (slice_index sheet.words (2 + slot)))

  roots_are : (sheet : Sheet) → get images 2 ≡ Some sheet → g.roots ≡ Some (root_names sheet)
  unfolding root_names
  roots_are sheet on = part.roots (root_names sheet) (ap (roots_in catalog base book images) on)

  root_shown : (names : List ℕ) (n : ℕ) → g.roots ≡ Some names → Contains names n → IsSome (get g.records n) → is_some (get (shown_records catalog base book images) n) ≡ true
  unfolding root_names
  root_shown names n is among there =
      let on = some_of (get images 2) rooted in
      let f : ℕ → ℕ = λ slot. name_by book (slice_index on.0.words (2 + slot)) in
      let same : names ≡ list_of 16 f = one_value g.roots names (list_of 16 f) is (roots_are on.0 on.1) in
      let found : Contains (list_of 16 f) n = subst (λ (ns : List ℕ). Contains ns n) same among in
      let low : found.0 < 16 = omega (arith, found.1, list_of-length f 16) in
      name_shown (slice_index on.0.words (2 + found.0)) n (fits.roots found.0 on.0 low on.1) (sym (list_of-item f 16 found.0 n low) ∙ found.2) there

  next_shown : (m n : ℕ) (r : Record) → is_some (get (shown_records catalog base book images) m) ≡ true → get g.records m ≡ Some r → Refers catalog r n
      → IsSome (get g.records n) → is_some (get (shown_records catalog base book images) n) ≡ true
  next_shown m n r seen is refers there =
      let x = some_of (get (shown_records catalog base book images) m) seen in
      let from = shown_from catalog base book images m x.0 x.1 in
      let object = object_shown catalog base book images from.0 m fits (placed from.0 m from.1) from.1 in
      let same : r ≡ record_at book catalog object.0.words (word_in base from.0) =
      one_value (get g.records m) r (record_at book catalog object.0.words (word_in base from.0)) is (part.records m (record_at book catalog object.0.words (word_in base from.0)) object.2) in
      let word = refers_word catalog book object.0.words (word_in base from.0) n (subst (λ (y : Record). Refers catalog y n) same refers) in
      name_shown (slice_index object.0.words (word_in base from.0 + 2 + word.0)) n (fits.references from.0 m word.0 object.0 from.1 object.1 word.1) word.2 there

  reached_shown : (n : ℕ) → Reached catalog g n → is_some (get (shown_records catalog base book images) n) ≡ true
  reached_shown n (root names _ is among there) = root_shown names n is among there
  reached_shown n (next m _ r up is refers there) = next_shown m n r (reached_shown m up) is refers there

  pub nothing_lost : AgreesOnReached catalog g (shown catalog base book images)
  unfolding root_names
  nothing_lost = record {
    roots = (let on = some_of (get images 2) rooted in roots_are on.0 on.1 ∙ sym (ap (roots_in catalog base book images) on.1));
    records = λ n r reached is.
        let x = some_of (get (shown_records catalog base book images) n) (reached_shown n reached) in
        x.1 ∙ ap Some (one_value (get g.records n) x.0 r (part.records n x.0 x.1) is);
  }
