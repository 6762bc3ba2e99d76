-- A pass touches pages alone that it marked and that no word pins.
use Rattle.std.proofs.Common.{◌≡◌, ◌==◌, ◌||◌, ◌&&◌, ◌++◌, ◌∙◌, ◌⊎◌, inl, inr, ℕ, suc, Bool, true, false, not, List, [], ◌∷◌, take, drop, Some, is_some, refl, sym, ap, subst, arith}
use Rattle.std.proofs.lemmas.Bool.{and_parts, eqb-true}
use Rattle.std.specs.List.{Contains, list_any}
use Rattle.std.specs.FinMap.{contains_key}
use Rattle.std.specs.FinSet as set
use Rattle.pm3_core.specs.declared.naming.TheConstants.{BASE}
use Rattle.pm3_types.specs.Fields.{Fields}
use Rattle.pm3_types.specs.Layout.{page_in}
use Rattle.pm3_types.specs.Least.Least.{begin, next}
use Rattle.pm3_types.specs.PassMoves.{AreMovers, AreMoves, Move, moves_of, paired, settled, sizes, wanted_by}
use Rattle.pm3_types.specs.PassSets.{Before, Kept, Promoted, is_of_space}
use Rattle.pm3_types.specs.Shown.{Book}
use Rattle.pm3_access.specs.Acts.{space_left}
use Rattle.pm3_access.specs.Holding.{Holding}
use Rattle.pm3_history.specs.Entry as history
use Rattle.pm3_history.specs.Named.{book_of}
use Rattle.pm3_table.specs.declared.view.Deed.{Deed}
use Rattle.pm3_table.specs.Deeds.{IsClearedIn}
use Rattle.pm3_table.specs.Entries.{touched_by, touches}
use Rattle.pm3_table.specs.Histories.{some_has}
use Rattle.pm3_txn.specs.PassCommits.{Marks, PassState, before_pass, done_with, named_moves, pass_of}
use Rattle.pm3_txn.proofs.PassAfter.{stands_on}

-- one of the two is so
either : (a b : Bool) → (a || b) ≡ true → (a ≡ true) ⊎ (b ≡ true)
either true b is = inl refl
either false b is = inr is

-- the names of objects tell nothing of the pages from which they move
any_named : (book : Book) (q : ℕ) (list : List Move) → list_any (λ (m : history.Move). page_in BASE m.from == q) (named_moves book list) ≡ list_any (λ (m : Move). page_in BASE m.from == q) list
any_named book q [] = refl
any_named book q (m ∷ ms) = ap (λ (b : Bool). (page_in BASE m.from == q) || b) (any_named book q ms)

or_second : (a b : Bool) → b ≡ true → (a || b) ≡ true
or_second true b is = refl
or_second false b is = is

-- moves of two lists are moves of one of them
one_of : (a b c d : Bool) → (a ≡ true) ⊎ (d ≡ true) → (d ≡ true → (b ≡ true) ⊎ (c ≡ true)) → ((a || b) ≡ true) ⊎ (c ≡ true)
one_of a b c d (inl here) more = inl (ap (λ (x : Bool). x || b) here)
one_of a b c d (inr later) more = of (more later)
  where
    of : (b ≡ true) ⊎ (c ≡ true) → ((a || b) ≡ true) ⊎ (c ≡ true)
    of (inl is) = inl (or_second a b is)
    of (inr is) = inr is

any_both : (q : ℕ) (one other : List Move) → list_any (λ (m : Move). page_in BASE m.from == q) (one ++ other) ≡ true
    → (list_any (λ (m : Move). page_in BASE m.from == q) one ≡ true) ⊎ (list_any (λ (m : Move). page_in BASE m.from == q) other ≡ true)
any_both q [] other is = inr is
any_both q (m ∷ ms) other is =
    one_of (page_in BASE m.from == q) (list_any (λ (m : Move). page_in BASE m.from == q) ms) (list_any (λ (m : Move). page_in BASE m.from == q) other)
    (list_any (λ (m : Move). page_in BASE m.from == q) (ms ++ other))
    (either (page_in BASE m.from == q) (list_any (λ (m : Move). page_in BASE m.from == q) (ms ++ other)) is) (any_both q ms other)

-- what moves is one of the objects of the list
here_or : (q old : ℕ) (olds : List ℕ) (more : Bool) → ((page_in BASE old == q) ≡ true) ⊎ (more ≡ true) → (more ≡ true → (a : ℕ) × Contains olds a × (page_in BASE a ≡ q))
    → (a : ℕ) × Contains (old ∷ olds) a × (page_in BASE a ≡ q)
here_or q old olds more (inl here) rest = (old, (0, omega arith, refl), eqb-true (page_in BASE old) q here)
here_or q old olds more (inr later) rest =
    let there = rest later in (there.0, (suc there.1.0, (let low = there.1.1 in omega (arith, low)), there.1.2), there.2)

moves_from : (q : ℕ) (olds news : List ℕ) → list_any (λ (m : Move). page_in BASE m.from == q) (paired olds news) ≡ true → (a : ℕ) × Contains olds a × (page_in BASE a ≡ q)
moves_from q [] news is = absurd (cc is)
moves_from q (old ∷ olds) [] is = absurd (cc is)
moves_from q (old ∷ olds) (new ∷ news) is = here_or q old olds (list_any (λ (m : Move). page_in BASE m.from == q) (paired olds news))
    (either (page_in BASE old == q) (list_any (λ (m : Move). page_in BASE m.from == q) (paired olds news)) is) (moves_from q olds news)

module _ (catalog : List Fields) (pages : ℕ) (h : Holding) (m : Marks) (p : PassState) (marked : (page : ℕ) → set.contains p.marked page ≡ contains_key (space_left h.space) page)
    (are : AreMoves catalog BASE (before_pass h p) p.fresh p.moves) where
  abbrev before : Before
  before = before_pass h p

  -- what is promoted or kept is an object of the space
  of_promoted : (a : ℕ) → Promoted catalog BASE before a → is_of_space BASE before a ≡ true
  of_promoted a (begin a' is) = is.0
  of_promoted a (next b a' from leads) = leads.0

  of_kept : (a : ℕ) → Kept catalog BASE before a → is_of_space BASE before a ≡ true
  of_kept a (begin a' is) = is.0
  of_kept a (next b a' from leads) = leads.0

  abbrev pub IsClear : ℕ → Type 0
  IsClear q = (set.contains p.marked q ≡ true) × (set.contains p.pinned q ≡ false)

  -- a page of the space is marked
  marked_at : (a : ℕ) → is_of_space BASE before a ≡ true → set.contains p.marked (page_in BASE a) ≡ true
  marked_at a is = let stands = stands_on (space_left h.space) a is in marked (page_in BASE a) ∙ ap is_some stands.on

  -- so is one from which an object moves, and no word pins it
  clear_from : (InSet : ℕ → Type 0) (list : List ℕ) (q : ℕ) → ((a : ℕ) → InSet a → is_of_space BASE before a ≡ true) → AreMovers BASE before InSet list
      → ((a : ℕ) × Contains list a × (page_in BASE a ≡ q)) → IsClear q
  clear_from InSet list q within movers (a, there, at) =
      let is = movers.only a there in
      subst IsClear at (marked_at a (within a is.0), is.1)

  moved_clear : (q : ℕ) → list_any (λ (m : Move). page_in BASE m.from == q) p.moves ≡ true → IsClear q
  moved_clear q is = of (any_both q first second (ap (list_any (λ (m : Move). page_in BASE m.from == q)) (sym are.are) ∙ is))
    where
      count : ℕ
      count = wanted_by catalog BASE (space_left h.space) are.promoted

      first : List Move
      first = moves_of catalog BASE (space_left h.space) are.promoted (take count p.fresh)

      second : List Move
      second = moves_of catalog BASE (space_left h.space) are.kept (drop count p.fresh)

      news : List ℕ → List ℕ → List ℕ
      news olds fresh = settled BASE (sizes catalog BASE (space_left h.space) olds) fresh

      of : (list_any (λ (m : Move). page_in BASE m.from == q) first ≡ true) ⊎ (list_any (λ (m : Move). page_in BASE m.from == q) second ≡ true) → IsClear q
      of (inl one) = clear_from (Promoted catalog BASE before) are.promoted q of_promoted are.of_promoted
          (moves_from q are.promoted (news are.promoted (take count p.fresh)) one)
      of (inr other) = clear_from (Kept catalog BASE before) are.kept q of_kept are.of_kept
          (moves_from q are.kept (news are.kept (drop count p.fresh)) other)

  pub touched_clear : (q : ℕ) → touched_by (Some (pass_of h p)) q ≡ true → IsClear q
  unfolding page_in
  touched_clear q is = of (either (list_any (λ (m : history.Move). page_in BASE m.from == q) (pass_of h p).moves) (set.contains p.marked q && not (set.contains p.pinned q)) is)
    where
      of_not : (b : Bool) → not b ≡ true → b ≡ false
      of_not true is = absurd (cc is)
      of_not false is = refl

      of : (list_any (λ (m : history.Move). page_in BASE m.from == q) (pass_of h p).moves ≡ true) ⊎ ((set.contains p.marked q && not (set.contains p.pinned q)) ≡ true) → IsClear q
      of (inl moves) = moved_clear q (sym (any_named (book_of BASE (space_left h.space)) q p.moves) ∙ moves)
      of (inr stays) = let parts = and_parts (set.contains p.marked q) (not (set.contains p.pinned q)) stays in (parts.0, of_not (set.contains p.pinned q) parts.1)

  -- so, where marks and a scan cleared what no word pins, it touches cleared pages alone
  pub touches_cleared : (log : List Deed) → ((q : ℕ) → set.contains p.marked q ≡ true → set.contains p.pinned q ≡ false → IsClearedIn pages log q)
      → (q : ℕ) → some_has touches (done_with m h p ∷ []) q ≡ true → IsClearedIn pages log q
  touches_cleared log cleared q is = let clear = touched_clear q (of (touches (done_with m h p) q) is) in cleared q clear.0 clear.1
    where
      of : (b : Bool) → (b || false) ≡ true → b ≡ true
      of true is = refl
      of false is = is
