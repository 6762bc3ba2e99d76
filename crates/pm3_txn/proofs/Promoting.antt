-- Pages are settled as persistent, one by one.
use Rattle.std.proofs.Common.{◌≡◌, ◌≢◌, ◌<◌, ◌≤◌, ◌+◌, ◌==◌, ◌||◌, ◌&&◌, ◌∙◌, inl, inr, ℕ, Bool, true, false, not, nat_lt, if◌then◌else◌, List, ◌∷◌, refl, sym, ap, subst, arith}
use Rattle.std.proofs.lemmas.Bool.{cases_eq, cases_lt, eq-eqb, ne_eqb, lt-ltb, le-ltb, false≢true}
use Rattle.pm3_core.specs.Machine.{put}
use Rattle.pm3_table.specs.declared.view.Deed.{Deed}
use Rattle.pm3_table.specs.declared.view.Deed.TheVariants.{Unmarked}
use Rattle.pm3_table.specs.declared.view.View.{View}
use Rattle.pm3_table.specs.Deeds.{marks_of, reads_of, stands_of, word_of}
use Rattle.pm3_table.specs.Holds.{holds_of, is_in, spans_of}
use Rattle.pm3_table.specs.Ops.{settled_held}
use Rattle.pm3_table.specs.Reads.{marked_then, read_of}
use Rattle.pm3_table.specs.Settles.{unmark_log}
use Rattle.pm3_table.proofs.Put.{put_at, put_else}
use Rattle.pm3_txn.specs.PassEnds.{HasSettled}
use Rattle.pm3_txn.specs.States.{MutatorState}
use Rattle.pm3_txn.specs.Takes.{with_view}

put_true : (f : ℕ → Bool) (k q : ℕ) → put f k true q ≡ ((q == k) || f q)
put_true f k q = elim (cases_eq q k) [
  | inl e ↦ put_at f k true q e ∙ sym (ap (λ (b : Bool). b || f q) (eq-eqb q k e))
  | inr ne ↦ put_else f k true q ne ∙ sym (ap (λ (b : Bool). b || f q) (ne_eqb q k ne))
]

put_false : (f : ℕ → Bool) (k q : ℕ) → put f k false q ≡ (not (q == k) && f q)
put_false f k q = elim (cases_eq q k) [
  | inl e ↦ put_at f k false q e ∙ sym (ap (λ (b : Bool). not b && f q) (eq-eqb q k e))
  | inr ne ↦ put_else f k false q ne ∙ sym (ap (λ (b : Bool). not b && f q) (ne_eqb q k ne))
]

turned_eq : (a b : ℕ) → (a == b) ≡ (b == a)
turned_eq a b = elim (cases_eq a b) [
  | inl e ↦ eq-eqb a b e ∙ sym (eq-eqb b a (sym e))
  | inr ne ↦ ne_eqb a b ne ∙ sym (ne_eqb b a (λ e. ne (sym e)))
]

-- what is left of a log once a page has no mark
module _ (log : List Deed) (page : ℕ) where
  by_mark : {X : Type 0} (f : List Deed → X) → f (Unmarked page ∷ log) ≡ f log → f (unmark_log log page) ≡ f log
  by_mark f same = of (marks_of log page)
    where
      of : (b : Bool) → f (if b then (Unmarked page ∷ log) else log) ≡ f log
      of true = same
      of false = refl

  unmarked_marks : (q : ℕ) → marks_of (unmark_log log page) q ≡ (not (q == page) && marks_of log q)
  unmarked_marks q = of (marks_of log page) refl
    where
      of : (b : Bool) → marks_of log page ≡ b → marks_of (if b then (Unmarked page ∷ log) else log) q ≡ (not (q == page) && marks_of log q)
      of true is = put_false (marks_of log) page q
      of false is = elim (cases_eq q page) [
        | inl e ↦ ap (marks_of log) e ∙ is ∙ sym (ap (λ (b : Bool). not b && marks_of log q) (eq-eqb q page e))
        | inr ne ↦ sym (ap (λ (b : Bool). not b && marks_of log q) (ne_eqb q page ne))
      ]

  unmarked_reads : (pages q : ℕ) → q ≢ page → reads_of pages (unmark_log log page) q ≡ reads_of pages log q
  unmarked_reads pages q ne = by_mark (λ l. reads_of pages l q) (put_else (reads_of pages log) page (λ _. false) q ne)

or_both : (a b x : Bool) → (a || (b || x)) ≡ ((a || b) || x)
or_both true b x = refl
or_both false b x = refl

not_both : (a b x : Bool) → (not a && (not b && x)) ≡ (not (a || b) && x)
not_both true b x = refl
not_both false b x = refl

not_first : (a b : Bool) → (a || b) ≡ false → (a ≡ false) × (b ≡ false)
not_first true b is = absurd (false≢true (sym is))
not_first false b is = (refl, is)

-- nothing was settled
pub settled_none : {R : Type 0} (pages : ℕ) (m : MutatorState R) (has : ℕ → Bool) → ((q : ℕ) → has q ≡ false) → HasSettled pages m m has
settled_none pages m has none = record {
  rest = refl;
  words = λ q. refl;
  stands = λ q. refl;
  holds = λ u. ap (λ (b : Bool). b || holds_of m.pass.1.holds u) (sym (none u));
  spans = λ u q. ap (λ (b : Bool). not b && spans_of m.pass.1.spans u q) (sym (none q));
  steady = λ q. ap (λ (b : Bool). b || is_in q m.pass.1.steady) (sym (none q));
  marks = λ q. ap (λ (b : Bool). not b && marks_of m.pass.1.log q) (sym (none q));
  marked = λ q. refl;
  read = λ n. refl;
  reads = λ q off n. refl;
}

-- the same under a test that answers the same
pub settled_as : {R : Type 0} (pages : ℕ) (a b : MutatorState R) (has some : ℕ → Bool) → ((q : ℕ) → some q ≡ has q) → HasSettled pages a b has → HasSettled pages a b some
settled_as pages a b has some same is = record {
  rest = is.rest;
  words = is.words;
  stands = is.stands;
  holds = λ u. is.holds u ∙ ap (λ (x : Bool). x || holds_of a.pass.1.holds u) (sym (same u));
  spans = λ u q. is.spans u q ∙ ap (λ (x : Bool). not x && spans_of a.pass.1.spans u q) (sym (same q));
  steady = λ q. is.steady q ∙ ap (λ (x : Bool). x || is_in q a.pass.1.steady) (sym (same q));
  marks = λ q. is.marks q ∙ ap (λ (x : Bool). not x && marks_of a.pass.1.log q) (sym (same q));
  marked = is.marked;
  read = is.read;
  reads = λ q off n. is.reads q (sym (same q) ∙ off) n;
}

-- a page more
pub settled_more : {R : Type 0} (pages : ℕ) (a b c : MutatorState R) (has : ℕ → Bool) (page : ℕ) → HasSettled pages a b has
    → c ≡ with_view b (settled_held b.pass.1 page (unmark_log b.pass.1.log page)) → HasSettled pages a c (λ q. (q == page) || has q)
settled_more {R} pages a b c has page is step = subst (λ (x : MutatorState R). HasSettled pages a x (λ q. (q == page) || has q)) (sym step) (record {
  rest = ap (λ (x : MutatorState R). with_view x (settled_held (record x.pass.1 { holds = v.holds; spans = v.spans; steady = v.steady; pages = v.pages }) page (unmark_log v.log page))) is.rest;
  words = λ q. ap (λ (f : ℕ → ℕ). f q) (by_mark v.log page word_of refl) ∙ is.words q;
  stands = λ q. ap (λ (f : ℕ → Bool). f q) (by_mark v.log page stands_of refl) ∙ is.stands q;
  holds = λ u. put_true (holds_of v.holds) page u ∙ ap (λ (x : Bool). (u == page) || x) (is.holds u) ∙ or_both (u == page) (has u) (holds_of a.pass.1.holds u);
  spans = λ u q. ap (λ (x : Bool). put (spans_of v.spans u) page x q) (ne_eqb 0 (u + 1) (λ e. omega (arith, e))) ∙ put_false (spans_of v.spans u) page q ∙ ap (λ (x : Bool). not (q == page) && x) (is.spans u q) ∙ not_both (q == page) (has q) (spans_of a.pass.1.spans u q);
  steady = λ q. ap (λ (x : Bool). x || is_in q v.steady) (turned_eq page q) ∙ ap (λ (x : Bool). (q == page) || x) (is.steady q) ∙ or_both (q == page) (has q) (is_in q a.pass.1.steady);
  marks = λ q. unmarked_marks v.log page q ∙ ap (λ (x : Bool). not (q == page) && x) (is.marks q) ∙ not_both (q == page) (has q) (marks_of a.pass.1.log q);
  marked = λ q. ap (λ (f : ℕ → Bool). f q) (by_mark v.log page marked_then refl) ∙ is.marked q;
  read = λ n. ap (λ f. f n) (by_mark v.log page read_of refl) ∙ is.read n;
  reads = λ q off n. (let apart = not_first (q == page) (has q) off in
      ap (λ (f : ℕ → Bool). f n) (unmarked_reads v.log page pages q (λ e. false≢true (sym apart.0 ∙ eq-eqb q page e))) ∙ is.reads q apart.1 n);
})
  where
    v : View
    v = b.pass.1

-- the pages of a test below a number, once one more is passed
pub below_more : (want : ℕ → Bool) (from page : ℕ) → from ≤ page → ((q : ℕ) → from ≤ q → q < page → want q ≡ false) → want page ≡ true → (q : ℕ)
    → (nat_lt q (page + 1) && want q) ≡ ((q == page) || (nat_lt q from && want q))
below_more want from page reach none is q = elim (cases_eq q page) [
  | inl e ↦ ap (λ (b : Bool). b && want q) (lt-ltb q (page + 1) (omega (arith, e))) ∙ ap want e ∙ is ∙ sym (ap (λ (b : Bool). b || (nat_lt q from && want q)) (eq-eqb q page e))
  | inr ne ↦ below_skip want from page reach none q ne ∙ sym (ap (λ (b : Bool). b || (nat_lt q from && want q)) (ne_eqb q page ne))
]
  where
    below_skip : (want : ℕ → Bool) (from page : ℕ) → from ≤ page → ((q : ℕ) → from ≤ q → q < page → want q ≡ false) → (q : ℕ) → q ≢ page → (nat_lt q (page + 1) && want q) ≡ (nat_lt q from && want q)
    below_skip want from page reach none q ne = elim (cases_lt q from) [
      | inl low ↦ ap (λ (b : Bool). b && want q) (lt-ltb q (page + 1) (omega (arith, low, reach)) ∙ sym (lt-ltb q from low))
      | inr high ↦ elim (cases_lt q page) [
        | inl between ↦ and_none (nat_lt q (page + 1)) (want q) (none q high between) ∙ sym (and_none (nat_lt q from) (want q) (none q high between))
        | inr above ↦ ap (λ (b : Bool). b && want q) (le-ltb q (page + 1) (omega (arith, above, ne)) ∙ sym (le-ltb q from high))
      ]
    ]
      where
        and_none : (a b : Bool) → b ≡ false → (a && b) ≡ false
        and_none true b off = off
        and_none false b off = refl

-- or none of them
pub below_same : (want : ℕ → Bool) (from page : ℕ) → from ≤ page → ((q : ℕ) → from ≤ q → q < page → want q ≡ false) → want page ≡ false → (q : ℕ)
    → (nat_lt q (page + 1) && want q) ≡ (nat_lt q from && want q)
below_same want from page reach none off q = elim (cases_lt q from) [
  | inl low ↦ ap (λ (b : Bool). b && want q) (lt-ltb q (page + 1) (omega (arith, low, reach)) ∙ sym (lt-ltb q from low))
  | inr high ↦ elim (cases_lt q (page + 1)) [
    | inl between ↦ and_none (nat_lt q (page + 1)) (want q) (of q high between) ∙ sym (and_none (nat_lt q from) (want q) (of q high between))
    | inr above ↦ ap (λ (b : Bool). b && want q) (le-ltb q (page + 1) above ∙ sym (le-ltb q from high))
  ]
]
  where
    and_none : (a b : Bool) → b ≡ false → (a && b) ≡ false
    and_none true b none_ = none_
    and_none false b none_ = refl

    of : (q : ℕ) → from ≤ q → q < page + 1 → want q ≡ false
    of q above below = elim (cases_eq q page) [
      | inl e ↦ ap want e ∙ off
      | inr ne ↦ none q above (omega (arith, below, ne))
    ]
