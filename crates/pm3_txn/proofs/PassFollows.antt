-- The commit of a transaction with its space, whose pass was carried out, may follow the state.
use Rattle.std.proofs.Common.{◌≡◌, ◌≢◌, ◌<◌, ◌==◌, ◌∙◌, ◌⊎◌, inl, inr, ℕ, suc, true, false, List, [], ◌∷◌, Option, Some, None, is_some, unwrap_or, refl, sym, ap, subst, arith}
use Rattle.std.proofs.lemmas.Bool.{cases_eq, cases_Bool, cond-true, cond-false, eqb-true, false≢true}
use Rattle.std.specs.Prelude.{drop, take, slice_index_or}
use Rattle.std.specs.List.{Contains}
use Rattle.std.specs.FinMap.{get, contains_key}
use Rattle.std.specs.FinSet as set
use Rattle.pm3_core.specs.declared.naming.TheConstants.{BASE}
use Rattle.pm3_types.specs.Fields.{Fields}
use Rattle.pm3_types.specs.Graph.{PartOf}
use Rattle.pm3_types.specs.Layout.{Sheet, page_in}
use Rattle.pm3_types.specs.PassMoves as pass_moves
use Rattle.pm3_types.specs.PassMoves.{moved_by}
use Rattle.pm3_types.specs.PassSets.{Turns}
use Rattle.pm3_types.specs.Shown.{Book, shown}
use Rattle.pm3_graph.specs.declared.operations.Op.{Op}
use Rattle.pm3_copy.specs.PassLaws.{FitsAfter, KeepsRoots, OthersAreQuiet, ShowsNothingNew}
use Rattle.pm3_access.specs.Acts.{space_left, space_found}
use Rattle.pm3_access.specs.Holding.{Holding}
use Rattle.pm3_history.specs.Laid.{laid}
use Rattle.pm3_history.specs.Lawful.{Fate, IsFree, IsPass, TakesPages, Writes}
use Rattle.pm3_history.specs.Lawful.Fate.{Stays, Moved, Dead}
use Rattle.pm3_history.specs.Named.{book_of, off_pages, promoted}
use Rattle.pm3_history.specs.State.{State, entry_after}
use Rattle.pm3_history.proofs.Laying.{some_of, some_none, there_none, one_value, laid_cases, without_cases, off_cases}
use Rattle.pm3_history.proofs.NamedOn.{book_of_named}
use Rattle.pm3_txn.specs.PassCommits.{Marks, PassState, HasPassed, PassesFollow, all_before, all_after, before_pass, done_with, named_moves, pass_of}
use Rattle.pm3_txn.specs.TransactionLaws.{IsSettled}
use Rattle.pm3_txn.specs.Works.{Works}
use Rattle.pm3_txn.proofs.Admitting.{home_image}
use Rattle.pm3_txn.proofs.OwnBooks.{found_booked, last_whole}
use Rattle.pm3_txn.proofs.PassAfter.{in_take, in_drop, to, new, space_page, written_page, changed_written, only_after, law_pass}
use Rattle.pm3_txn.proofs.PassBook.{last, whole_cases, whole_one, found_page_left, changed_home, own_unchanged, before_fits, commit}
use Rattle.pm3_txn.proofs.PassLeads.{written_form}
use Rattle.pm3_txn.proofs.PassWithin.{after_fits, within}

-- an object that goes elsewhere has its move, with its name
named_in : (book : Book) (list : List pass_moves.Move) (a : ℕ) → moved_by list a ≢ a
    → Contains (named_moves book list) (record { name = unwrap_or (get book a) 0; from = a; to = moved_by list a })
named_in book [] a goes = absurd (goes refl)
named_in book (x ∷ xs) a goes = elim (cases_Bool (x.from == a)) [
  | inl here ↦ (
    0,
    omega arith,
    (let at : x.from ≡ a = eqb-true x.from a here in
        let lands : moved_by (x ∷ xs) a ≡ x.to = cond-true (x.from == a) x.to (moved_by xs a) here in
        λ i. record { name = unwrap_or (get book (at i)) 0; from = at i; to = sym lands i }),
  )
  | inr other ↦ (let lands : moved_by (x ∷ xs) a ≡ moved_by xs a = cond-false (x.from == a) x.to (moved_by xs a) other in
      let rest = named_in book xs a (λ stays. goes (lands ∙ stays)) in (
        suc rest.0,
        omega (arith, rest.1),
        subst (λ (t : ℕ). slice_index_or (named_moves book xs) rest.0 (record { name = unwrap_or (get book a) 0; from = a; to = t }) ≡ record { name = unwrap_or (get book a) 0; from = a; to = t }) (sym lands) rest.2,
      ))
]

module _ (fits : FitsAfter) (nothing : ShowsNothingNew) (roots : KeepsRoots) (others : OthersAreQuiet) (catalog : List Fields) (pages : ℕ) (st : State) (settled : IsSettled catalog st) (h : Holding) (ops : List (Op × ℕ))
    (works : Works catalog pages st h ops) (m : Marks) (p : PassState) (has : HasPassed catalog pages st h m p) where
  abbrev own : Book
  own = book_of BASE (space_left h.space)

  abbrev book : Book
  book = laid own st.book

  abbrev next : Book
  next = new others catalog pages st settled h ops works m p has

  abbrev moved : ℕ → ℕ
  moved = to others catalog pages st settled h ops works m p has

  off_fresh : (q : ℕ) → is_some (get (space_left h.space) q) ≡ true → Contains p.fresh q → ⊥
  off_fresh q mine fresh = there_none (get (space_left h.space) q) mine (has.fresh q fresh).1

  takes : TakesPages BASE st (entry_after catalog BASE st (done_with m h p)) (pass_of h p)
  takes = record {
    space = λ q owned. (let x = some_of (get (space_found h.space) q)
        (last_whole catalog st settled p.space (space_found h.space) (last catalog pages st settled h ops works m p has) q owned) in still q x.0 x.1);
    before = has.drawn;
    changed = λ q is. (let sheet = some_of (get p.changed q) is in
        let home = changed_home catalog pages st settled h ops works m p has q sheet.0 sheet.1 in
        ((home_image catalog st settled q home.0).0, ap is_some home.1, changed_written others catalog pages st settled h ops works m p has q is));
    after = λ q is. own_or_free q (space_page others catalog pages st settled h ops works m p has q is);
    promoted = λ q is off. by q off (written_page others catalog pages st settled h ops works m p has q is);
    apart = has.apart;
  }
    where
      -- a page that the space had is one that it has
      still : (q : ℕ) (sheet : Sheet) → get (space_found h.space) q ≡ Some sheet → contains_key (space_left h.space) q ≡ true
      still q sheet on = found_page_left catalog pages st settled h ops works m p has q sheet on

      own_or_free : (q : ℕ) → (is_some (get (space_left h.space) q) ≡ true) ⊎ Contains p.fresh q → (contains_key (space_left h.space) q ≡ true) ⊎ IsFree BASE st q
      own_or_free q (inl mine) = inl mine
      own_or_free q (inr fresh) = inr (has.fresh q fresh).0

      by : (q : ℕ) → contains_key p.changed q ≡ false → (contains_key p.changed q ≡ true) ⊎ ((is_some (get (space_left h.space) q) ≡ true) ⊎ Contains p.fresh q)
          → (contains_key (space_left h.space) q ≡ true) ⊎ IsFree BASE st q
      by q off (inl on) = absurd (false≢true (sym off ∙ on))
      by q off (inr other) = own_or_free q other

  only : PartOf (shown catalog BASE next (all_after p)) (shown catalog BASE book (all_before h p))
  only =
      let pass = law_pass others catalog pages st settled h ops works m p has in record {
        records = nothing catalog BASE (before_pass h p) p.fresh (all_before h p) (all_after p) p.after p.written book next pass;
        roots = λ names is. sym (roots catalog BASE (before_pass h p) p.fresh (all_before h p) (all_after p) p.after p.written book next pass) ∙ is;
      }

  -- an object of the space was known before, or the transaction made it
  made : (a n : ℕ) → get book a ≡ Some n → (get st.book a ≡ Some n) ⊎ (set.contains p.made n ≡ true)
  made a n is = of (whole_cases catalog pages st settled h ops works m p has a n is)
    where
      by : (get (book_of BASE (space_found h.space)) a ≡ Some n) ⊎ (set.contains p.made n ≡ true) → (get st.book a ≡ Some n) ⊎ (set.contains p.made n ≡ true)
      by (inl found) = inl (found_booked catalog st settled h.space works.space a n found)
      by (inr new_) = inr new_

      of : (get own a ≡ Some n) ⊎ ((get (space_left h.space) (page_in BASE a) ≡ None) × (get st.book a ≡ Some n)) → (get st.book a ≡ Some n) ⊎ (set.contains p.made n ≡ true)
      of (inl mine) = by (has.made a n mine)
      of (inr old) = inl old.1

  names : (a n : ℕ) → get next a ≡ Some n → n < m.next_name
  names a n is = (let from = only_after others catalog pages st settled h ops works m p has a n is in of from.0 (made from.0 n from.2))
    where
      of : (b : ℕ) → (get st.book b ≡ Some n) ⊎ (set.contains p.made n ≡ true) → n < m.next_name
      of b (inl old) = (let low = settled.bounded.names b n old in let rise = has.names_rise in omega (arith, low, rise))
      of b (inr new_) = has.names n new_

  -- what stays on a page of the space stays on a pinned one
  pinned_stays : (a n : ℕ) → is_some (get (space_left h.space) (page_in BASE a)) ≡ true → get next a ≡ Some n → set.contains p.pinned (page_in BASE a) ≡ true
  pinned_stays a n mine is = of (laid_cases (off_pages BASE st.book (space_left h.space)) (book_of BASE (laid p.after (promoted p.written (pass_of h p)))) a n is)
    where
      turned : Turns catalog BASE (before_pass h p) (page_in BASE a) ⊎ Contains (take (pass_moves.wanted_by catalog BASE (space_left h.space) has.carried.are.promoted) p.fresh) (page_in BASE a)
          → set.contains p.pinned (page_in BASE a) ≡ true
      turned (inl turns) = turns.0
      turned (inr fresh) = absurd (off_fresh (page_in BASE a) mine (in_take (pass_moves.wanted_by catalog BASE (space_left h.space) has.carried.are.promoted) (page_in BASE a) p.fresh fresh))

      written : (sheet : Sheet) → get (promoted p.written (pass_of h p)) (page_in BASE a) ≡ Some sheet → set.contains p.pinned (page_in BASE a) ≡ true
      written sheet on = by ((has.carried.written_pages (page_in BASE a)).0 (ap is_some (without_cases p.written p.changed (page_in BASE a) sheet on).1))
        where
          by : (contains_key p.changed (page_in BASE a) ≡ true) ⊎ (Turns catalog BASE (before_pass h p) (page_in BASE a) ⊎ Contains (take (pass_moves.wanted_by catalog BASE (space_left h.space) has.carried.are.promoted) p.fresh) (page_in BASE a))
              → set.contains p.pinned (page_in BASE a) ≡ true
          by (inl changed) = absurd (there_none (get p.changed (page_in BASE a)) changed (own_unchanged catalog pages st settled h ops works m p has (page_in BASE a) mine))
          by (inr other) = turned other

      after : ((set.contains p.pinned (page_in BASE a) ≡ true) × (Turns catalog BASE (before_pass h p) (page_in BASE a) → ⊥)) ⊎ Contains (drop (pass_moves.wanted_by catalog BASE (space_left h.space) has.carried.are.promoted) p.fresh) (page_in BASE a)
          → set.contains p.pinned (page_in BASE a) ≡ true
      after (inl stays) = stays.0
      after (inr fresh) = absurd (off_fresh (page_in BASE a) mine (in_drop (pass_moves.wanted_by catalog BASE (space_left h.space) has.carried.are.promoted) (page_in BASE a) p.fresh fresh))

      kept : (sheet : Sheet) → (get (promoted p.written (pass_of h p)) (page_in BASE a) ≡ Some sheet) ⊎ ((get (promoted p.written (pass_of h p)) (page_in BASE a) ≡ None) × (get p.after (page_in BASE a) ≡ Some sheet))
          → set.contains p.pinned (page_in BASE a) ≡ true
      kept sheet (inl on) = written sheet on
      kept sheet (inr at) = after ((has.carried.space_pages (page_in BASE a)).0 (ap is_some at.1))

      of : (get (book_of BASE (laid p.after (promoted p.written (pass_of h p)))) a ≡ Some n)
          ⊎ ((get (book_of BASE (laid p.after (promoted p.written (pass_of h p)))) a ≡ None) × (get (off_pages BASE st.book (space_left h.space)) a ≡ Some n)) → set.contains p.pinned (page_in BASE a) ≡ true
      of (inl there) = (let on = book_of_named BASE (laid p.after (promoted p.written (pass_of h p))) a n there in
          kept on.sheet (laid_cases p.after (promoted p.written (pass_of h p)) (page_in BASE a) on.sheet on.on))
      of (inr off) = absurd (there_none (get (space_left h.space) (page_in BASE a)) mine (off_cases BASE st.book (space_left h.space) a n off.1).0)

  fate : (a n : ℕ) → get book a ≡ Some n → contains_key (space_left h.space) (page_in BASE a) ≡ true → Fate BASE (pass_of h p) next a n
  fate a n is mine = of (get next (moved a)) refl
    where
      gone : ((k : ℕ) → get next (moved a) ≡ Some k → k ≢ n) → Fate BASE (pass_of h p) next a n
      gone never = Dead (λ b there. (let from = only_after others catalog pages st settled h ops works m p has b n there in
          let same : from.0 ≡ a = whole_one catalog pages st settled h ops works m p has from.0 a n from.2 is in
          never n (ap (λ (c : ℕ). get next (moved c)) (sym same) ∙ ap (get next) from.1 ∙ there) refl))

      name : unwrap_or (get own a) 0 ≡ n
      name = by (whole_cases catalog pages st settled h ops works m p has a n is)
        where
          by : (get own a ≡ Some n) ⊎ ((get (space_left h.space) (page_in BASE a) ≡ None) × (get st.book a ≡ Some n)) → unwrap_or (get own a) 0 ≡ n
          by (inl here) = ap (λ (o : Option ℕ). unwrap_or o 0) here
          by (inr old) = absurd (there_none (get (space_left h.space) (page_in BASE a)) mine old.0)

      goes : moved a ≢ a → Contains (pass_of h p).moves (record { name = n; from = a; to = moved a })
      goes away = subst (λ (x : ℕ). Contains (pass_of h p).moves (record { name = x; from = a; to = moved a })) name
          (subst (λ (l : List pass_moves.Move). Contains (named_moves own l) (record { name = unwrap_or (get own a) 0; from = a; to = moved a })) has.moves (named_in own has.carried.moves a away))

      alive : get next (moved a) ≡ Some n → Fate BASE (pass_of h p) next a n
      alive there = elim (cases_eq (moved a) a) [
        | inl stays ↦ (let here : get next a ≡ Some n = ap (get next) (sym stays) ∙ there in Stays (pinned_stays a n mine here) here)
        | inr away ↦ Moved (moved a) (goes away) there
      ]

      of : (o : Option ℕ) → get next (moved a) ≡ o → Fate BASE (pass_of h p) next a n
      of None none = gone (λ k there. absurd (some_none (get next (moved a)) k there none))
      of (Some k) there = elim (cases_eq k n) [
        | inl same ↦ alive (there ∙ ap Some same)
        | inr other ↦ gone (λ x also same. other (one_value (get next (moved a)) k x there also ∙ same))
      ]

  is_pass : IsPass catalog BASE pages st (entry_after catalog BASE st (done_with m h p)) (pass_of h p)
  is_pass = record {
    marked = λ a n is on. has.marked (page_in BASE a) ∙ on;
    words = has.words;
    pinned = has.pinned;
    made = made;
    takes = takes;
    fits = before_fits catalog pages st settled h ops works m p has;
    fits_after = after_fits fits others catalog pages st settled h ops works m p has;
    within = within fits others catalog pages st settled h ops works m p has;
    form = has.after_form;
    only = only;
    names = names;
    fate = fate;
  }

  writes : Writes catalog BASE pages st (entry_after catalog BASE st (done_with m h p))
  writes = record {
    form = written_form others catalog pages st settled h ops works m p has;
    names_rise = has.names_rise;
    pages_rise = has.pages_rise;
    most = has.most;
  }

pub passes_follow : FitsAfter → ShowsNothingNew → KeepsRoots → OthersAreQuiet → PassesFollow
passes_follow fits nothing roots others catalog pages st h ops m p settled works has = (
  commit catalog pages st settled h ops works m p has,
  writes fits nothing roots others catalog pages st settled h ops works m p has,
  is_pass fits nothing roots others catalog pages st settled h ops works m p has,
)
