-- The pages of a transaction go back after its commit.
use Rattle.std.proofs.Common.{◌≡◌, ◌<◌, ◌≤◌, ◌==◌, ◌||◌, ◌++◌, ◌∙◌, ℕ, Bool, true, false, List, [], ◌∷◌, Option, Some, None, is_some, slice_index_or, refl, sym, ap, subst, arith}
use Rattle.std.proofs.lemmas.Bool.{false≢true, ne_eqb}
use Rattle.std.specs.Option.{option_or}
use Rattle.std.specs.FinMap as images
use Rattle.std.specs.FinMap.{contains_key, get}
use Rattle.pm3_core.specs.declared.naming.TheConstants.{BASE}
use Rattle.pm3_types.specs.Layout.{PageImage, Sheet}
use Rattle.pm3_types.specs.PageForm.{HasForm}
use Rattle.pm3_types.specs.Shown.{Images as Sheets}
use Rattle.pm3_page.specs.PageMap.{Images}
use Rattle.pm3_page.specs.PageSheets.{sheet_in, sheets_of}
use Rattle.pm3_page.proofs.SheetsOf.{get-sheets_of}
use Rattle.pm3_access.specs.declared.parted.Parted.{Parted}
use Rattle.pm3_access.specs.Holding.{Holding, HeldSpaceState, image_in, space_now}
use Rattle.pm3_access.specs.Parting.{joined}
use Rattle.pm3_access.proofs.Moved.{get_both}
use Rattle.pm3_access.proofs.SoundingPages.{form_for_more}
use Rattle.pm3_history.specs.Entry.{Done}
use Rattle.pm3_history.specs.LastImages.{last_written}
use Rattle.pm3_history.specs.State.{State, now}
use Rattle.pm3_history.proofs.Lasting.{last_is_written}
use Rattle.pm3_table.specs.declared.view.Hold.{Hold}
use Rattle.pm3_table.specs.declared.view.Told.{Told}
use Rattle.pm3_table.specs.declared.view.View.{View}
use Rattle.pm3_table.specs.Holds.{holds_of}
use Rattle.pm3_table.specs.Ops.{gave, turned}
use Rattle.pm3_table.specs.Entries.{is_space_of}
use Rattle.pm3_table.specs.Telling.{Lawful, NoneNames, names}
use Rattle.pm3_table.specs.Words.{turn_unit}
use Rattle.pm3_txn.specs.Aborting.{AreOwed, HasCleared, was_written}
use Rattle.pm3_txn.specs.Committing.{HasFailed, HasGivenTurn, IsParted}
use Rattle.pm3_txn.specs.Knowing.{is_in_use}
use Rattle.pm3_txn.specs.States.{MutatorState}
use Rattle.pm3_txn.specs.Takes.{with_view}
use Rattle.pm3_txn.specs.Underway.{IsUnder}
use Rattle.pm3_txn.specs.Values.{IsPageOf, last_known}
use Rattle.pm3_txn.proofs.Seeing.{now_later, use_later}
use Rattle.pm3_txn.proofs.Taking.{last_written-append, page_later, under_later}
use Rattle.pm3_txn.proofs.Touched.{no_more}
use Rattle.pm3_txn.proofs.TurnTaken.{given_turn}

-- a page that a commit wrote has its image
pub page_written : (told : Told) (seen : List Done) (d : Done) (q : ℕ) (image : PageImage) → (2 ≤ q) × (q < told.pages) → image.page ≡ q
    → HasForm told.opening.catalog (is_in_use told (seen ++ d ∷ [])) q image.sheet → get d.written q ≡ Some image.sheet → IsPageOf told (seen ++ d ∷ []) q image
page_written told seen d q image low home form written = record {
  low = low;
  home = home;
  form = form;
  known = λ sheet is. cc (sym last ∙ is);
  loaded = λ none. absurd (cc (sym last ∙ none));
  last = λ st opens. ap (λ (s : State). get s.pages q) (now_later told seen (d ∷ []) st)
      ∙ last_is_written told.opening.catalog BASE (now told.opening.catalog BASE st seen) (d ∷ []) q
      ∙ ap (λ (o : Option Sheet). option_or o (get (now told.opening.catalog BASE st seen).pages q)) written;
}
  where
    last : last_known told.opening (seen ++ d ∷ []) q ≡ Some image.sheet
    last = ap (λ (o : Option Sheet). option_or o (get told.opening.images q))
        (last_written-append seen (d ∷ []) q ∙ ap (λ (o : Option Sheet). option_or o (last_written seen q)) written)

or_false : (a b : Bool) → a ≡ false → b ≡ false → (a || b) ≡ false
or_false a b one two = ap (λ (x : Bool). x || b) one ∙ two

module _ (told : Told) (v w : View) (p : Parted) (d : Done) (faults : ℕ) (under : IsUnder told (gave v (turn_unit told.pages)) (joined p)) (parted : IsParted p)
    (plain : (d.written ≡ sheets_of p.written.images) × (d.pass ≡ None)) (given : w ≡ turned (turn_unit told.pages) v (d ∷ []) [] faults) where
  abbrev h : Holding
  h = joined p

  there : (q : ℕ) (image : PageImage) → images.get h.pages.left q ≡ Some image → image_in h q ≡ Some image
  there q image is = ap (λ (o : Option PageImage). option_or o (space_now h.space q)) is

  -- what is held alone is all that is held
  alone : (q : ℕ) → is_some (image_in h q) ≡ true → is_some (images.get h.pages.left q) ≡ true
  alone q is = sym (ap is_some (or_none (images.get h.pages.left q))) ∙ sym (ap (λ (s : Option HeldSpaceState). is_some (option_or (images.get h.pages.left q) (space_now s q))) under.alone) ∙ is
    where
      or_none : (o : Option PageImage) → option_or o None ≡ o
      or_none None = refl
      or_none (Some x) = refl

  seen_now : w.seen ≡ v.seen ++ d ∷ []
  seen_now = ap (λ (x : View). x.seen) given

  holds_now : (u : ℕ) → holds_of w.holds u ≡ holds_of (gave v (turn_unit told.pages)).holds u
  holds_now u = ap (λ (x : View). holds_of x.holds u) given

  held_now : (q : ℕ) (image : PageImage) → images.get h.pages.left q ≡ Some image → holds_of w.holds q ≡ true
  held_now q image is = holds_now q ∙ (under.units q (ap is_some (there q image is))).0

  -- a page that was not written is as it was found
  unnamed : (q : ℕ) (image : PageImage) → images.get h.pages.left q ≡ Some image → images.get p.written.images q ≡ None → NoneNames told (d ∷ []) q
  unnamed q image left none =
      or_false (names told d q) false
      (or_false (q == turn_unit told.pages) (contains_key d.written q || is_space_of (turn_unit told.pages) q d.pass)
      (ne_eqb q (turn_unit told.pages) (λ same. let low = (under.units q (ap is_some (there q image left))).1 in omega (arith, low, same)))
      (or_false (contains_key d.written q) (is_space_of (turn_unit told.pages) q d.pass)
      (ap (λ (m : Sheets). contains_key m q) plain.0 ∙ ap is_some (get-sheets_of p.written.images q ∙ ap sheet_in none))
      (ap (is_space_of (turn_unit told.pages) q) plain.1))) refl

  pub others_owed : AreOwed told w p.rest.pages.images
  others_owed q image is =
      let was = (parted.others q image).0 is in (
        held_now q image was.0,
        subst (λ (l : List Done). IsPageOf told l q image) (sym seen_now)
            (page_later told v.seen (d ∷ []) q image (unnamed q image was.0 (apart (images.get p.written.images q) refl)) (under.found q image was.1)),
      )
    where
      apart : (o : Option PageImage) → images.get p.written.images q ≡ o → images.get p.written.images q ≡ None
      apart None none = none
      apart (Some x) some = absurd (none_some (sym (parted.rejoin.apart q (λ none. none_some (sym none ∙ some))) ∙ is))
        where
          none_some : {y : PageImage} → None ≡ Some y → ⊥
          none_some e = cc e

  pub written_owed : AreOwed told w p.written.images
  written_owed q image is =
      let was = ((parted.written q image).0 is).0 in
      let on = there q image was in
      let home = under.places.home q image on in (
        held_now q image was,
        subst (λ (l : List Done). IsPageOf told l q image) (sym seen_now)
            (page_written told v.seen d q image (under.persistent q (ap is_some on)).low home
            (form_for_more told.opening.catalog (is_in_use told v.seen) (is_in_use told (v.seen ++ d ∷ [])) (use_later told v.seen (d ∷ [])) q image.sheet
            (subst (λ (n : ℕ). HasForm told.opening.catalog (is_in_use told v.seen) n image.sheet) home (under.form q image on)))
            (ap (λ (m : Sheets). get m q) plain.0 ∙ get-sheets_of p.written.images q ∙ ap sheet_in is)),
      )

  -- once one part was given back, the other is owed still
  pub owed_after : (x : View) (given more : Images) → x.seen ≡ w.seen → ((u : ℕ) → contains_key given u ≡ false → holds_of x.holds u ≡ holds_of w.holds u)
      → ((u : ℕ) → contains_key more u ≡ true → contains_key given u ≡ false) → AreOwed told w more → AreOwed told x more
  owed_after x given more seen others apart owed q image is =
      let was = owed q image is in
      (others q (apart q (ap is_some is)) ∙ was.0, subst (λ (l : List Done). IsPageOf told l q image) (sym seen) was.1)

  pub parts_apart : (u : ℕ) → contains_key p.written.images u ≡ true → contains_key p.rest.pages.images u ≡ false
  parts_apart u is = ap is_some (parted.rejoin.apart u (λ none. false≢true (ap is_some (sym none) ∙ is)))

  -- and then nothing is held
  pub all_given : (x y : View) → ((u : ℕ) → contains_key p.rest.pages.images u ≡ true → holds_of x.holds u ≡ false)
      → ((u : ℕ) → contains_key p.rest.pages.images u ≡ false → holds_of x.holds u ≡ holds_of w.holds u)
      → ((u : ℕ) → contains_key p.written.images u ≡ true → holds_of y.holds u ≡ false)
      → ((u : ℕ) → contains_key p.written.images u ≡ false → holds_of y.holds u ≡ holds_of x.holds u) → (u : ℕ) → holds_of y.holds u ≡ false
  all_given x y gone others gone_too others_too u = of (contains_key p.written.images u) (contains_key p.rest.pages.images u) refl refl
    where
      bare : (b : Bool) → holds_of w.holds u ≡ b → contains_key p.written.images u ≡ false → contains_key p.rest.pages.images u ≡ false → holds_of w.holds u ≡ false
      bare false is none none_too = is
      bare true is none none_too =
          absurd (false≢true (sym (nowhere (images.get p.written.images u) (images.get p.rest.pages.images u) none none_too) ∙ ap is_some (sym (get_both p.rest.pages.images p.written.images u)) ∙ left_there))
        where
          nowhere : (a b : Option PageImage) → is_some a ≡ false → is_some b ≡ false → is_some (option_or a b) ≡ false
          nowhere None b x y = y
          nowhere (Some z) b x y = x

          left_there : is_some (images.get h.pages.left u) ≡ true
          left_there = alone u (under.only u (sym (holds_now u) ∙ is))

      of : (a b : Bool) → contains_key p.written.images u ≡ a → contains_key p.rest.pages.images u ≡ b → holds_of y.holds u ≡ false
      of true b is is_too = gone_too u is
      of false true is is_too = others_too u is ∙ gone u is_too
      of false false is is_too = others_too u is ∙ others u is_too ∙ bare (holds_of w.holds u) refl is is_too

-- once the turn is given back, the transaction is as it was
pub under_given : (told : Told) (v w : View) (h : Holding) → IsUnder told (gave v (turn_unit told.pages)) h → w.seen ≡ v.seen
    → w.holds ≡ (gave v (turn_unit told.pages)).holds → Lawful told w.seen → IsUnder told w h
under_given told v w h under seen holds lawful =
    under_later told (gave v (turn_unit told.pages)) w h [] under (seen ∙ no_more v.seen) lawful (λ u _. refl) (λ u. ap (λ (hs : List Hold). holds_of hs u) holds)

module _ {R : Type 0} where
  -- a transaction whose append was refused has ended
  pub has_failed : (m last new : MutatorState R) (turn : ℕ) (failed : List Done) (faults : ℕ) → last ≡ with_view m (turned turn m.pass.1 [] failed faults) → m.pass.1.faults ≤ faults
      → HasCleared last new (was_written last) → HasFailed m new failed
  has_failed m last new turn failed faults is heard cleared =
      let counted : new.pass.1.faults ≡ faults = ap (λ (v : View). v.faults) cleared.view.1 ∙ ap (λ (x : MutatorState R). x.pass.1.faults) is in
      record {
        last = last;
        given = subst (λ (n : ℕ). HasGivenTurn m last [] failed n) (sym counted) (given_turn m last turn [] failed faults is);
        heard = omega (arith, counted, heard);
        cleared = subst (λ (f : ℕ → Bool). HasCleared last new f) (λ i q. slice_index_or (is i).wrote q false) cleared;
      }

  pub failed_heard : (m last new : MutatorState R) (turn : ℕ) (failed : List Done) (faults : ℕ) → last ≡ with_view m (turned turn m.pass.1 [] failed faults)
      → HasCleared last new (was_written last) → new.pass.1.faults ≡ faults
  failed_heard m last new turn failed faults is cleared = ap (λ (v : View). v.faults) cleared.view.1 ∙ ap (λ (x : MutatorState R). x.pass.1.faults) is
