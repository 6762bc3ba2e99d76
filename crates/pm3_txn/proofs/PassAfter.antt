-- The book after a pass has what is not dead at its new address.
use Rattle.std.proofs.Common.{◌≡◌, ◌+◌, ◌∙◌, ◌⊎◌, inl, inr, ℕ, zero, suc, true, List, [], ◌∷◌, take, drop, Option, Some, None, is_some, refl, sym, ap, arith}
use Rattle.std.proofs.lemmas.Bool.{and_from, and_parts}
use Rattle.std.specs.Prelude.{slice_index}
use Rattle.std.specs.List.{Contains}
use Rattle.std.specs.Option.{option_or}
use Rattle.std.specs.FinMap.{get, contains_key}
use Rattle.std.specs.FinSet as set
use Rattle.pm3_core.specs.declared.naming.TheConstants.{BASE}
use Rattle.pm3_types.specs.Fields.{Fields}
use Rattle.pm3_types.specs.Layout.{Sheet, is_address, is_unmoved, page_in, word_in}
use Rattle.pm3_types.specs.Objects.{is_object_at, is_unmoved_on}
use Rattle.pm3_types.specs.PassMoves.{moved_by, wanted_by}
use Rattle.pm3_types.specs.PassSets.{IsDead, Turns}
use Rattle.pm3_types.specs.PassShown.{AreJoined, IsBookAfter}
use Rattle.pm3_types.specs.Shown.{Book, Images}
use Rattle.pm3_graph.specs.declared.operations.Op.{Op}
use Rattle.pm3_copy.specs.PassLaws as carried
use Rattle.pm3_copy.specs.PassLaws.{OthersAreQuiet}
use Rattle.pm3_access.specs.Acts.{space_left}
use Rattle.pm3_access.specs.Holding.{Holding}
use Rattle.pm3_history.specs.Laid.{laid}
use Rattle.pm3_history.specs.Lawful.{IsFree}
use Rattle.pm3_history.specs.Named.{IsNamedOn, book_of, next_book, off_pages, promoted}
use Rattle.pm3_history.specs.State.{State}
use Rattle.pm3_history.proofs.Laying.{some_none, there_none, none_if, one_value, get-laid, laid_above, laid_below, laid_cases, laid_none, without_keeps, without_cases, off_keeps, off_cases}
use Rattle.pm3_history.proofs.NamedOn.{book_of_named, book_of_has}
use Rattle.pm3_txn.specs.PassCommits.{Marks, PassState, HasPassed, all_before, all_after, before_pass, pass_of}
use Rattle.pm3_txn.specs.TransactionLaws.{IsSettled}
use Rattle.pm3_txn.specs.Works.{Works}
use Rattle.pm3_txn.proofs.OwnBooks.{own_on}
use Rattle.pm3_txn.proofs.PassBook.{whole_cases, own_whole, old_whole, changed_home, own_unchanged, before_fits}

-- what is taken of a list, or dropped, is in it
in_cons : (x y : ℕ) (l : List ℕ) → Contains l y → Contains (x ∷ l) y
in_cons x y l (k, low, is) = (suc k, omega (arith, low), is)

of_cons : (x y : ℕ) (l : List ℕ) → Contains (x ∷ l) y → (x ≡ y) ⊎ Contains l y
of_cons x y l (zero, low, is) = inl is
of_cons x y l (suc k, low, is) = inr (k, omega (arith, low), is)

in_either : (x y : ℕ) (l some : List ℕ) → (Contains some y → Contains l y) → (x ≡ y) ⊎ Contains some y → Contains (x ∷ l) y
in_either x y l some all (inl here) = (0, omega arith, here)
in_either x y l some all (inr there) = in_cons x y l (all there)

pub in_take : (n y : ℕ) (l : List ℕ) → Contains (take n l) y → Contains l y
in_take zero y l (k, low, is) = absurd (omega (arith, low))
in_take (suc n) y [] (k, low, is) = absurd (omega (arith, low))
in_take (suc n) y (x ∷ l) is = in_either x y l (take n l) (in_take n y l) (of_cons x y (take n l) is)

pub in_drop : (n y : ℕ) (l : List ℕ) → Contains (drop n l) y → Contains l y
in_drop zero y l is = is
in_drop (suc n) y [] is = is
in_drop (suc n) y (x ∷ l) is = in_cons x y l (in_drop n y l is)

or_none : (o : Option Sheet) → option_or o None ≡ o
or_none None = refl
or_none (Some x) = refl

-- images laid over others of which none has a page of theirs
pub joined_laid : (lower upper : Images) → ((q : ℕ) → is_some (get lower q) ≡ true → get upper q ≡ None) → AreJoined lower upper (laid lower upper)
joined_laid lower upper off = record { has = λ q. here q (get lower q) refl; apart = λ q. apart q (get lower q) refl }
  where
    here : (q : ℕ) (o : Option Sheet) → get lower q ≡ o → get (laid lower upper) q ≡ option_or (get lower q) (get upper q)
    here q None none = get-laid lower upper q ∙ ap (option_or (get upper q)) none ∙ or_none (get upper q) ∙ sym (ap (λ (o : Option Sheet). option_or o (get upper q)) none)
    here q (Some sheet) on = laid_below lower upper q (off q (ap is_some on)) ∙ on ∙ sym (ap (λ (o : Option Sheet). option_or o (get upper q)) on)

    apart : (q : ℕ) (o : Option Sheet) → get lower q ≡ o → (get lower q ≡ None) ⊎ (get upper q ≡ None)
    apart q None none = inl none
    apart q (Some sheet) on = inr (off q (ap is_some on))

-- an object of images stands on one of them
pub record StandsOn (images : Images) (a : ℕ) : Type 0 where
  pub sheet : Sheet
  pub on : get images (page_in BASE a) ≡ Some sheet
  pub address : is_address BASE a ≡ true
  pub unmoved : is_unmoved sheet (word_in BASE a) ≡ true

pub stands_on : (images : Images) (a : ℕ) → is_object_at BASE images a ≡ true → StandsOn images a
stands_on images a is = of (get images (page_in BASE a)) refl
  where
    parts : (is_address BASE a ≡ true) × (is_unmoved_on (get images (page_in BASE a)) (word_in BASE a) ≡ true)
    parts = and_parts (is_address BASE a) (is_unmoved_on (get images (page_in BASE a)) (word_in BASE a)) is

    of : (o : Option Sheet) → get images (page_in BASE a) ≡ o → StandsOn images a
    of None none = absurd (cc (sym (ap (λ (o : Option Sheet). is_unmoved_on o (word_in BASE a)) none) ∙ parts.1))
    of (Some sheet) on = record {
      sheet = sheet;
      on = on;
      address = parts.0;
      unmoved = sym (ap (λ (o : Option Sheet). is_unmoved_on o (word_in BASE a)) on) ∙ parts.1;
    }

pub object_at_on : (images : Images) (a : ℕ) (sheet : Sheet) → get images (page_in BASE a) ≡ Some sheet → is_address BASE a ≡ true → is_unmoved sheet (word_in BASE a) ≡ true
    → is_object_at BASE images a ≡ true
object_at_on images a sheet on address unmoved =
    and_from (is_address BASE a) (is_unmoved_on (get images (page_in BASE a)) (word_in BASE a)) address (ap (λ (o : Option Sheet). is_unmoved_on o (word_in BASE a)) on ∙ unmoved)

module _ (others : OthersAreQuiet) (catalog : List Fields) (pages : ℕ) (st : State) (settled : IsSettled catalog st) (h : Holding) (ops : List (Op × ℕ)) (works : Works catalog pages st h ops)
    (m : Marks) (p : PassState) (has : HasPassed catalog pages st h m p) where
  abbrev book : Book
  book = laid (book_of BASE (space_left h.space)) st.book

  abbrev kept : Images
  kept = laid p.after (promoted p.written (pass_of h p))

  abbrev pub new : Book
  new = next_book BASE st.book p.written (Some (pass_of h p))

  abbrev pub to : ℕ → ℕ
  to = moved_by has.carried.moves

  abbrev pub dead : ℕ → Type 0
  dead = IsDead catalog BASE (before_pass h p)

  -- its pages
  pub pinned_before : (q : ℕ) → set.contains p.pinned q ≡ true → is_some (get (space_left h.space) q) ≡ true
  pinned_before q is = sym (has.marked q) ∙ ((has.pinned q).0 is).0

  pub space_page : (q : ℕ) → contains_key p.after q ≡ true → (is_some (get (space_left h.space) q) ≡ true) ⊎ Contains p.fresh q
  space_page q is = of ((has.carried.space_pages q).0 is)
    where
      of : ((set.contains p.pinned q ≡ true) × (Turns catalog BASE (before_pass h p) q → ⊥)) ⊎ Contains (drop (wanted_by catalog BASE (space_left h.space) has.carried.are.promoted) p.fresh) q
          → (is_some (get (space_left h.space) q) ≡ true) ⊎ Contains p.fresh q
      of (inl stays) = inl (pinned_before q stays.0)
      of (inr fresh) = inr (in_drop (wanted_by catalog BASE (space_left h.space) has.carried.are.promoted) q p.fresh fresh)

  pub written_page : (q : ℕ) → contains_key p.written q ≡ true → (contains_key p.changed q ≡ true) ⊎ ((is_some (get (space_left h.space) q) ≡ true) ⊎ Contains p.fresh q)
  written_page q is = of ((has.carried.written_pages q).0 is)
    where
      of : (contains_key p.changed q ≡ true) ⊎ (Turns catalog BASE (before_pass h p) q ⊎ Contains (take (wanted_by catalog BASE (space_left h.space) has.carried.are.promoted) p.fresh) q)
          → (contains_key p.changed q ≡ true) ⊎ ((is_some (get (space_left h.space) q) ≡ true) ⊎ Contains p.fresh q)
      of (inl changed) = inl changed
      of (inr (inl turns)) = inr (inl (pinned_before q turns.0))
      of (inr (inr fresh)) = inr (inr (in_take (wanted_by catalog BASE (space_left h.space) has.carried.are.promoted) q p.fresh fresh))

  -- a page of the space after the pass is not written
  pub after_unwritten : (q : ℕ) → contains_key p.after q ≡ true → get p.written q ≡ None
  after_unwritten = has.apart

  pub changed_written : (q : ℕ) → contains_key p.changed q ≡ true → contains_key p.written q ≡ true
  changed_written q is = (has.carried.written_pages q).1 (inl is)

  -- a fresh page has no object, and is none of those that are held
  pub fresh_bare : (a n : ℕ) → Contains p.fresh (page_in BASE a) → get book a ≡ Some n → ⊥
  fresh_bare a n fresh is = of (whole_cases catalog pages st settled h ops works m p has a n is)
    where
      of : (get (book_of BASE (space_left h.space)) a ≡ Some n) ⊎ ((get (space_left h.space) (page_in BASE a) ≡ None) × (get st.book a ≡ Some n)) → ⊥
      of (inl mine) = there_none (get (space_left h.space) (page_in BASE a)) (own_on (space_left h.space) a n mine) (has.fresh (page_in BASE a) fresh).1
      of (inr old) = (has.fresh (page_in BASE a) fresh).0.empty a n old.1 refl

  pub fresh_unchanged : (q : ℕ) → Contains p.fresh q → get p.changed q ≡ None
  fresh_unchanged q fresh = none_if (get p.changed q) (λ sheet on. by (changed_home catalog pages st settled h ops works m p has q sheet on).0)
    where
      free : IsFree BASE st q
      free = (has.fresh q fresh).0

      by : (q ≡ 2) ⊎ ((a : ℕ) × (n : ℕ) × (page_in BASE a ≡ q) × (get (off_pages BASE st.book st.owner) a ≡ Some n)) → ⊥
      by (inl two) = free.apart two
      by (inr (a, n, at, old)) = free.empty a n (off_cases BASE st.book st.owner a n old).1 at

  -- what is on none of the space's pages stays where it is
  pub quiet : (a : ℕ) → get (space_left h.space) (page_in BASE a) ≡ None → (to a ≡ a) × (dead a → ⊥)
  quiet a off = others catalog BASE (before_pass h p) p.fresh has.carried.moves has.carried.are (page_in BASE a) off a refl

  -- images of the space and of written pages before it
  pub own_before : (q : ℕ) (sheet : Sheet) → get (space_left h.space) q ≡ Some sheet → get (all_before h p) q ≡ Some sheet
  own_before q sheet on = laid_below (space_left h.space) p.changed q (own_unchanged catalog pages st settled h ops works m p has q (ap is_some on)) ∙ on

  pub joined : AreJoined (space_left h.space) p.changed (all_before h p)
  joined = joined_laid (space_left h.space) p.changed (own_unchanged catalog pages st settled h ops works m p has)

  pub no_roots : get (space_left h.space) 2 ≡ None
  no_roots = none_if (get (space_left h.space) 2) (λ sheet on. by (has.drawn 2 (ap is_some on)))
    where
      by : (get st.owner 2 ≡ Some p.space) ⊎ IsFree BASE st 2 → ⊥
      by (inl owned) = some_none (get st.owner 2) p.space owned settled.chronicled.roots_free
      by (inr free) = free.apart refl

  -- what was not changed before it, and is there after it, is a page of its own after it
  pub now_kept : (q : ℕ) (sheet : Sheet) → get (all_after p) q ≡ Some sheet → get p.changed q ≡ None → get kept q ≡ Some sheet
  now_kept q sheet is off = of (laid_cases p.after p.written q sheet is)
    where
      of : (get p.written q ≡ Some sheet) ⊎ ((get p.written q ≡ None) × (get p.after q ≡ Some sheet)) → get kept q ≡ Some sheet
      of (inl on) = laid_above p.after (promoted p.written (pass_of h p)) q sheet (without_keeps p.written p.changed q off ∙ on)
      of (inr (none, on)) = laid_below p.after (promoted p.written (pass_of h p)) q (without_keeps p.written p.changed q off ∙ none) ∙ on

  -- and such a page is there after it, and was none that was changed
  pub kept_now : (q : ℕ) (sheet : Sheet) → get kept q ≡ Some sheet → (get (all_after p) q ≡ Some sheet) × (get p.changed q ≡ None)
  kept_now q sheet is = of (laid_cases p.after (promoted p.written (pass_of h p)) q sheet is)
    where
      of : (get (promoted p.written (pass_of h p)) q ≡ Some sheet) ⊎ ((get (promoted p.written (pass_of h p)) q ≡ None) × (get p.after q ≡ Some sheet))
          → (get (all_after p) q ≡ Some sheet) × (get p.changed q ≡ None)
      of (inl on) = (let parts = without_cases p.written p.changed q sheet on in (laid_above p.after p.written q sheet parts.1, parts.0))
      of (inr (none, on)) =
          let bare : get p.written q ≡ None = after_unwritten q (ap is_some on) in (
            laid_below p.after p.written q bare ∙ on,
            none_if (get p.changed q) (λ x there. there_none (get p.written q) (changed_written q (ap is_some there)) bare),
          )

  -- it is one that the space had, or a fresh one
  pub kept_page : (q : ℕ) (sheet : Sheet) → get kept q ≡ Some sheet → (is_some (get (space_left h.space) q) ≡ true) ⊎ Contains p.fresh q
  kept_page q sheet is = of (laid_cases p.after (promoted p.written (pass_of h p)) q sheet is)
    where
      of : (get (promoted p.written (pass_of h p)) q ≡ Some sheet) ⊎ ((get (promoted p.written (pass_of h p)) q ≡ None) × (get p.after q ≡ Some sheet))
          → (is_some (get (space_left h.space) q) ≡ true) ⊎ Contains p.fresh q
      of (inl on) = by (written_page q (ap is_some (without_cases p.written p.changed q sheet on).1))
        where
          by : (contains_key p.changed q ≡ true) ⊎ ((is_some (get (space_left h.space) q) ≡ true) ⊎ Contains p.fresh q) → (is_some (get (space_left h.space) q) ≡ true) ⊎ Contains p.fresh q
          by (inl changed) = absurd (there_none (get p.changed q) changed (without_cases p.written p.changed q sheet on).0)
          by (inr other) = other
      of (inr at) = space_page q (ap is_some at.1)

  -- where an object goes was no changed page, if it is one of the space
  pub goes_off : (a : ℕ) → is_some (get (space_left h.space) (page_in BASE a)) ≡ true → get p.changed (page_in BASE (to a)) ≡ None
  goes_off a mine = of (has.carried.goes a)
    where
      of : (to a ≡ a) ⊎ Contains p.fresh (page_in BASE (to a)) → get p.changed (page_in BASE (to a)) ≡ None
      of (inl stays) = ap (λ (b : ℕ). get p.changed (page_in BASE b)) stays ∙ own_unchanged catalog pages st settled h ops works m p has (page_in BASE a) mine
      of (inr fresh) = fresh_unchanged (page_in BASE (to a)) fresh

  -- an object of the space that is not dead is there at its new address, under its name
  pub own_after : (a n : ℕ) → get (book_of BASE (space_left h.space)) a ≡ Some n → (dead a → ⊥) → get new (to a) ≡ Some n
  own_after a n mine live =
      let is = book_of_named BASE (space_left h.space) a n mine in
      let on : get (all_before h p) (page_in BASE a) ≡ Some is.sheet = own_before (page_in BASE a) is.sheet is.on in
      let moved = has.carried.carried.objects a is.sheet (object_at_on (all_before h p) a is.sheet on is.address is.unmoved) live on in
      laid_above (off_pages BASE st.book (space_left h.space)) (book_of BASE kept) (to a) n
      (book_of_has BASE kept (to a) n (record {
        sheet = moved.1.0;
        on = now_kept (page_in BASE (to a)) moved.1.0 moved.1.1 (goes_off a (ap is_some is.on));
        address = moved.0;
        unmoved = moved.1.2.object;
        named = moved.1.2.name ∙ is.named;
      }))

  -- the new book has what is on no page of the space as the old one had it
  pub old_after : (a : ℕ) → get (space_left h.space) (page_in BASE a) ≡ None → get kept (page_in BASE a) ≡ None → get new a ≡ get st.book a
  old_after a off bare =
      laid_below (off_pages BASE st.book (space_left h.space)) (book_of BASE kept) a
      (none_if (get (book_of BASE kept) a) (λ k is. there_none (get kept (page_in BASE a)) (own_on kept a k is) bare))
      ∙ off_keeps BASE st.book (space_left h.space) a off

  pub old_bare : (a n : ℕ) → get (space_left h.space) (page_in BASE a) ≡ None → get book a ≡ Some n → get kept (page_in BASE a) ≡ None
  old_bare a n off is = none_if (get kept (page_in BASE a)) (λ sheet on. by (kept_page (page_in BASE a) sheet on))
    where
      by : (is_some (get (space_left h.space) (page_in BASE a)) ≡ true) ⊎ Contains p.fresh (page_in BASE a) → ⊥
      by (inl mine) = there_none (get (space_left h.space) (page_in BASE a)) mine off
      by (inr fresh) = fresh_bare a n fresh is

  pub has_after : (a n : ℕ) → get book a ≡ Some n → (dead a → ⊥) → get new (to a) ≡ Some n
  has_after a n is live = of (whole_cases catalog pages st settled h ops works m p has a n is)
    where
      of : (get (book_of BASE (space_left h.space)) a ≡ Some n) ⊎ ((get (space_left h.space) (page_in BASE a) ≡ None) × (get st.book a ≡ Some n)) → get new (to a) ≡ Some n
      of (inl mine) = own_after a n mine live
      of (inr (off, old)) = ap (get new) (quiet a off).0 ∙ old_after a off (old_bare a n off is) ∙ old

  -- what an object of the new book was before
  abbrev pub Was : ℕ → ℕ → Type 0
  Was b n = (a : ℕ) × (to a ≡ b) × (get book a ≡ Some n) × (dead a → ⊥)

  only_kept : (b n : ℕ) → get (book_of BASE kept) b ≡ Some n → Was b n
  only_kept b n mine = of (laid_cases (space_left h.space) p.changed (page_in BASE from.0) was.sheet was.on)
    where
      is : IsNamedOn BASE kept b n
      is = book_of_named BASE kept b n mine

      now : (get (all_after p) (page_in BASE b) ≡ Some is.sheet) × (get p.changed (page_in BASE b) ≡ None)
      now = kept_now (page_in BASE b) is.sheet is.on

      from : (a : ℕ) × (to a ≡ b) × (is_object_at BASE (all_before h p) a ≡ true) × (dead a → ⊥)
      from = has.carried.only b (object_at_on (all_after p) b is.sheet now.0 is.address is.unmoved)

      was : StandsOn (all_before h p) from.0
      was = stands_on (all_before h p) from.0 from.2

      of : (get p.changed (page_in BASE from.0) ≡ Some was.sheet) ⊎ ((get p.changed (page_in BASE from.0) ≡ None) × (get (space_left h.space) (page_in BASE from.0) ≡ Some was.sheet)) → Was b n
      of (inl changed) =
          let stays = quiet from.0 (changed_home catalog pages st settled h ops works m p has (page_in BASE from.0) was.sheet changed).1 in
          let same : from.0 ≡ b = sym stays.0 ∙ from.1 in
          absurd (some_none (get p.changed (page_in BASE from.0)) was.sheet changed (ap (λ (c : ℕ). get p.changed (page_in BASE c)) same ∙ now.1))
      of (inr (none, on)) =
          let moved = has.carried.carried.objects from.0 was.sheet from.2 from.3 was.on in
          let sheets : moved.1.0 ≡ is.sheet = one_value (get (all_after p) (page_in BASE b)) moved.1.0 is.sheet (ap (λ (c : ℕ). get (all_after p) (page_in BASE c)) (sym from.1) ∙ moved.1.1) now.0 in
          let name : slice_index was.sheet.words (word_in BASE from.0 + 1) ≡ n =
          sym moved.1.2.name ∙ ap (λ (s : Sheet). slice_index s.words (word_in BASE (to from.0) + 1)) sheets
          ∙ ap (λ (c : ℕ). slice_index is.sheet.words (word_in BASE c + 1)) from.1 ∙ is.named in (
            from.0,
            from.1,
            own_whole catalog pages st settled h ops works m p has from.0 n
                (book_of_has BASE (space_left h.space) from.0 n (record { sheet = was.sheet; on = on; address = was.address; unmoved = was.unmoved; named = name })),
            from.3,
          )

  pub only_after : (b n : ℕ) → get new b ≡ Some n → Was b n
  only_after b n is = of (laid_cases (off_pages BASE st.book (space_left h.space)) (book_of BASE kept) b n is)
    where
      of : (get (book_of BASE kept) b ≡ Some n) ⊎ ((get (book_of BASE kept) b ≡ None) × (get (off_pages BASE st.book (space_left h.space)) b ≡ Some n)) → Was b n
      of (inl mine) = only_kept b n mine
      of (inr (none, off)) =
          let old = off_cases BASE st.book (space_left h.space) b n off in
          let stays = quiet b old.0 in
          (b, stays.0, old_whole catalog pages st settled h ops works m p has b n old.1, stays.1)

  pub book_after : IsBookAfter to dead book new
  book_after = record { has = has_after; only = only_after }

  -- the pass of which the laws on passes speak
  pub law_pass : carried.IsPass catalog BASE (before_pass h p) p.fresh (all_before h p) (all_after p) p.after p.written book new
  law_pass = record {
    done = has.carried;
    joined = joined;
    no_roots = no_roots;
    fits = before_fits catalog pages st settled h ops works m p has;
    after = book_after;
    apart = apart;
  }
    where
      apart : (a n : ℕ) → get book a ≡ Some n → get (all_before h p) (page_in BASE a) ≡ None → get (all_after p) (page_in BASE a) ≡ None
      apart a n is none = none_if (get (all_after p) (page_in BASE a)) (λ sheet on. some_none (get kept (page_in BASE a)) sheet
          (now_kept (page_in BASE a) sheet on (laid_none (space_left h.space) p.changed (page_in BASE a) none).0)
          (old_bare a n (laid_none (space_left h.space) p.changed (page_in BASE a) none).1 is))
