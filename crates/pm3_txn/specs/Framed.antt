-- A commit that does not name a unit leaves what stands for it, and failed commits concern the turn alone. These are the laws
-- of the values of slots; they stand here since a ghost member may name no proof of its own crate.
use Rattle.std.specs.Prelude.{ℕ, ◌≡◌, ◌≢◌, ◌==◌, ◌&&◌, ◌||◌, Bool, true, false, cond, nat_lt, List, [], ◌∷◌, ◌++◌, Option, None, Some, is_some, unwrap_or, refl}
use Rattle.std.specs.Option.{option_or}
use Rattle.std.specs.FinMap.{get, empty}
use Rattle.std.proofs.Common.{ap, sym, ◌∙◌, subst}
use Rattle.std.proofs.lemmas.Bool.{false≢true}
use Rattle.pm3_core.specs.declared.naming.TheConstants.{BASE}
use Rattle.pm3_disk.specs.declared.outside.Disk.{Ghosts}
use Rattle.pm3_types.specs.Layout.{PageImage, Sheet, page_in}
use Rattle.pm3_types.specs.PageForm.{is_memory_reference}
use Rattle.pm3_types.specs.Shown.{Images}
use Rattle.pm3_access.specs.Holding.{SpaceState}
use Rattle.pm3_access.proofs.SoundingPages.{form_for_more}
use Rattle.pm3_history.specs.Entry.{Done, Pass}
use Rattle.pm3_history.specs.LastImages.{last_written}
use Rattle.pm3_history.specs.State.{now}
use Rattle.pm3_history.proofs.Lasting.{written_stand}
use Rattle.pm3_table.specs.declared.view.Told.{Told}
use Rattle.pm3_table.specs.Entries.{is_space_of, writes}
use Rattle.pm3_table.specs.Histories.{some_has}
use Rattle.pm3_table.specs.Telling.{names}
use Rattle.pm3_table.specs.Words.{space_unit, turn_unit}
use Rattle.pm3_table.proofs.Has.{has_left}
use Rattle.pm3_table.proofs.Unnamed.{not_written, not_its_space, not_the_space, not_the_turn}
use Rattle.pm3_txn.specs.declared.values.Value.{Value}
use Rattle.pm3_txn.specs.declared.values.Value.TheVariants.{Page, Space, Turn}
use Rattle.pm3_txn.specs.Knowing.{is_in_use}
use Rattle.pm3_txn.specs.OwnStarts.{starts_in}
use Rattle.pm3_txn.specs.Values.{IsPageOf, IsSpaceOf, after_pass, last_known, space_left, space_use}
use Rattle.pm3_txn.specs.Slots.{stands_for}

not_there : {A : Type 0} (o : Option A) → is_some o ≡ false → o ≡ None
not_there None is = refl
not_there (Some x) is = absurd (false≢true (sym is))

-- the last image of a page is as before where a commit does not write it
written_before : (h : List Done) (e : Done) (page : ℕ) → get e.written page ≡ None → last_written (h ++ e ∷ []) page ≡ last_written h page
written_before [] e page none = none
written_before (d ∷ ds) e page none = ap (λ (o : Option Sheet). option_or o (get d.written page)) (written_before ds e page none)

-- and the images of a space where the commit has no pass of it
no_pass : (pages number : ℕ) (pass : Option Pass) → is_space_of (turn_unit pages) (space_unit pages number) pass ≡ false → after_pass pass number ≡ None
no_pass pages number None free = refl
no_pass pages number (Some p) free = ap (λ b. cond b (Some p.after) None) (not_the_space pages number p.space free)

left_before : (h : List Done) (e : Done) (number : ℕ) → after_pass e.pass number ≡ None → space_left (h ++ e ∷ []) number ≡ space_left h number
left_before [] e number none = none
left_before (d ∷ ds) e number none = ap (λ (o : Option Images). option_or o (after_pass d.pass number)) (left_before ds e number none)

-- the pages in use stay so
in_use_still : (x y : Bool) (c d e : Bool) → (d ≡ true → e ≡ true) → (x && (y || (c || d))) ≡ true → (x && (y || (c || e))) ≡ true
in_use_still true true c d e more is = refl
in_use_still true false true d e more is = refl
in_use_still true false false d e more is = more is
in_use_still false y c d e more is = is

use_on : (told : Told) (h : List Done) (e : Done) (a : ℕ) → is_in_use told h a ≡ true → is_in_use told (h ++ e ∷ []) a ≡ true
use_on told h e a = in_use_still (is_memory_reference BASE told.pages a) (a == 0) (nat_lt (page_in BASE a) told.frontier)
    (some_has writes h (page_in BASE a)) (some_has writes (h ++ e ∷ []) (page_in BASE a)) (has_left writes h (e ∷ []) (page_in BASE a))

or_rises : (a b c : Bool) → (a ≡ true → c ≡ true) → (a || b) ≡ true → (c || b) ≡ true
or_rises true b c up is = ap (λ (x : Bool). x || b) (up refl)
or_rises false b true up is = refl
or_rises false b false up is = is

page_framed : (told : Told) (h : List Done) (e : Done) (u : ℕ) (image : PageImage) → names told e u ≡ false → IsPageOf told h u image
    → IsPageOf told (h ++ e ∷ []) u image
page_framed told h e u image free is =
    let none : get e.written u ≡ None = not_there (get e.written u) (not_written (turn_unit told.pages) u e free) in
    let same : last_known told.opening (h ++ e ∷ []) u ≡ last_known told.opening h u =
    ap (λ (o : Option Sheet). option_or o (get told.opening.images u)) (written_before h e u none)
    in
    record {
      low = is.low;
      home = is.home;
      form = form_for_more told.opening.catalog (is_in_use told h) (is_in_use told (h ++ e ∷ [])) (use_on told h e) u image.sheet is.form;
      known = λ sheet known. is.known sheet (sym same ∙ known);
      loaded = λ unknown. is.loaded (sym same ∙ unknown);
      last = λ st opens. written_stand told.opening.catalog BASE st h e u
          ∙ ap (λ (o : Option Sheet). option_or o (get (now told.opening.catalog BASE st h).pages u)) none ∙ is.last st opens;
    }

space_framed : (told : Told) (h : List Done) (e : Done) (u : ℕ) (s : SpaceState) → names told e u ≡ false → IsSpaceOf told h u s
    → IsSpaceOf told (h ++ e ∷ []) u s
space_framed told h e u s free is =
    let apart = subst (λ (n : ℕ). is_space_of (turn_unit told.pages) n e.pass ≡ false) is.unit (not_its_space (turn_unit told.pages) u e free) in
    let none : after_pass e.pass s.number ≡ None = no_pass told.pages s.number e.pass apart in
    record {
      unit = is.unit;
      low = is.low;
      last = is.last ∙ ap (λ (o : Option Images). unwrap_or o empty) (sym (left_before h e s.number none));
      sound = λ page image on. (let was = is.sound page image on in (
        was.0,
        was.1,
        was.2,
        form_for_more told.opening.catalog (space_use told h s.images) (space_use told (h ++ e ∷ []) s.images)
            (λ a. or_rises (is_in_use told h a) (is_memory_reference BASE told.pages a && starts_in s.images a) (is_in_use told (h ++ e ∷ []) a) (use_on told h e a))
            image.page image.sheet was.3,
      ));
      free = is.free;
    }

module _ {D R : Type 0} (g : Ghosts D R) where
  -- the law of the frame
  pub framed : (told : Told) (lost h : List Done) (e : Done) (u : ℕ) (x : Value D R) → names told e u ≡ false
      → stands_for g told lost h u x → stands_for g told lost (h ++ e ∷ []) u x
  framed told lost h e u (Page image) free is = page_framed told h e u image free is
  framed told lost h e u (Space space) free is = space_framed told h e u space free is
  framed told lost h e u (Turn turn) free is = absurd (not_the_turn (turn_unit told.pages) u e free is.unit)

  -- the law of failed commits
  pub alike : (told : Told) (lost more h : List Done) (u : ℕ) (x : Value D R) → u ≢ turn_unit told.pages
      → stands_for g told lost h u x → stands_for g told more h u x
  alike told lost more h u (Page image) apart is = is
  alike told lost more h u (Space space) apart is = is
  alike told lost more h u (Turn turn) apart is = absurd (apart is.unit)
