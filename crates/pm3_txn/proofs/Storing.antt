-- A word that is stored at a place and validated.
use Rattle.std.proofs.Common.{◌≡◌, ◌≢◌, ℕ, Bool, true, false, List, set-set, refl, sym, ap, ◌∙◌, subst, inl, inr}
use Rattle.std.proofs.Math.ListN.{set}
use Rattle.pm3_core.specs.Machine.{put}
use Rattle.pm3_core.specs.Naming.{Names}
use Rattle.pm3_rows.specs.Validated.{Stands, reread}
use Rattle.pm3_table.specs.declared.unit.Busy.{Busy}
use Rattle.pm3_table.specs.declared.unit.Unit.TheVariants.{Page}
use Rattle.pm3_table.specs.declared.view.Deed.{Deed}
use Rattle.pm3_table.specs.declared.view.Deed.TheVariants.{Stored, Stood}
use Rattle.pm3_table.specs.declared.view.Refusal.{Refusal}
use Rattle.pm3_table.specs.declared.view.View.{View}
use Rattle.pm3_table.specs.Deeds.{word_of, stands_of, marks_of}
use Rattle.pm3_table.specs.Ops.{did, refused}
use Rattle.pm3_table.specs.Passes.{Becomes}
use Rattle.pm3_table.specs.Words.{mark_in}
use Rattle.pm3_table.proofs.Put.{put_at, put_here, put_else, put_cases}
use Rattle.pm3_txn.specs.Puts.{HasPut, IsPinned, IsMarked, stored}
use Rattle.pm3_txn.specs.States.{MutatorState}

-- what a view makes of another, of which only the log and the refusals differ
by_log : (v w : View) (log : List Deed) (refusals : List Refusal) → w ≡ record v { log = log; refusals = refusals }
    → w ≡ record v { log = w.log; refusals = w.refusals }
by_log v w log refusals e = e ∙ (λ i. record v { log = (sym e i).log; refusals = (sym e i).refusals })

module _ {R : Type 0} where
  -- the mutator with another pass, and with this tag at a place
  abbrev pub checked : MutatorState R → MutatorState R → MutatorState R
  checked m mid = record m { pass = mid.pass }

  abbrev pub tagged : MutatorState R → ℕ → Bool → MutatorState R
  tagged m place is_ref = record m { refs = set m.refs place is_ref }

  -- All that has_put tells follows from the log that was left, which the view shows.
  put_by : (old mid new : MutatorState R) (place word : ℕ) (is_ref : Bool) (log : List Deed) (refusals : List Refusal)
      → ((q : ℕ) → word_of log q ≡ put (word_of old.pass.1.log) place word q)
      → ((q : ℕ) → q ≢ place → stands_of log q ≡ stands_of old.pass.1.log q)
      → ((p : ℕ) → marks_of log p ≡ marks_of old.pass.1.log p)
      → Becomes old.pass mid.pass (record old.pass.1 { log = log; refusals = refusals })
      → mid.refs ≡ old.refs → mid.wrote ≡ set old.wrote place true → mid.space ≡ old.space → mid.reader ≡ old.reader → mid.next_name ≡ old.next_name
      → new ≡ tagged mid place is_ref → HasPut old new place word is_ref
  put_by old mid new place word is_ref log refusals words stands marks view refs wrote space reader next is =
      let shown : new.pass.1 ≡ record old.pass.1 { log = log; refusals = refusals } = ap (λ (m : MutatorState R). m.pass.1) is ∙ view.1 in
      let logs : new.pass.1.log ≡ log = ap (λ (v : View). v.log) shown in
      record {
        words = λ q. ap (λ (l : List Deed). word_of l q) logs ∙ words q;
        stands = λ q other. ap (λ (l : List Deed). stands_of l q) logs ∙ stands q other;
        marks = λ p. ap (λ (l : List Deed). marks_of l p) logs ∙ marks p;
        refs = ap (λ (m : MutatorState R). m.refs) is ∙ ap (λ (l : List Bool). set l place is_ref) refs;
        wrote = ap (λ (m : MutatorState R). m.wrote) is ∙ wrote;
        space = ap (λ (m : MutatorState R). m.space) is ∙ space;
        reader = ap (λ (m : MutatorState R). m.reader) is ∙ reader;
        next_name = ap (λ (m : MutatorState R). m.next_name) is ∙ next;
        view = (ap (λ (m : MutatorState R). m.pass.0) is ∙ view.0, by_log old.pass.1 new.pass.1 log refusals shown);
      }

  -- the word was stored, and nothing else
  pub put_stored : (old mid new : MutatorState R) (place word : ℕ) (is_ref : Bool) → mid ≡ stored old place word → new ≡ tagged mid place is_ref
      → HasPut old new place word is_ref
  put_stored old mid new place word is_ref was is =
      put_by old mid new place word is_ref (stored old place word).pass.1.log old.pass.1.refusals
      (λ q. refl)
      (λ q other. put_else (stands_of old.pass.1.log) place false q other)
      (λ p. refl)
      (ap (λ (m : MutatorState R). m.pass.0) was, ap (λ (m : MutatorState R). m.pass.1) was)
      (ap (λ (m : MutatorState R). m.refs) was) (ap (λ (m : MutatorState R). m.wrote) was) (ap (λ (m : MutatorState R). m.space) was) (ap (λ (m : MutatorState R). m.reader) was)
      (ap (λ (m : MutatorState R). m.next_name) was)
      is

  -- what the three steps of a put that is not refused leave
  pub record PutFacts (pages : ℕ) (old new : MutatorState R) (place word : ℕ) (is_ref : Bool) : Type 0 where
    pub put_is : HasPut old new place word is_ref
    pub pinned : IsPinned pages new place
    pub calm : new.pass.1.refusals ≡ old.pass.1.refusals

  after_stood : (pages : ℕ) (old first mid new : MutatorState R) (place word : ℕ) (is_ref : Bool) → first ≡ stored old place word
      → Becomes first.pass mid.pass (did (reread first.pass.1 place) (Stood place)) → mid ≡ checked first mid → new ≡ tagged mid place is_ref
      → PutFacts pages old new place word is_ref
  after_stood pages old first mid new place word is_ref was view rest is =
      let before : MutatorState R = stored old place word in
      let log : List Deed = (did (reread before.pass.1 place) (Stood place)).log in
      let seen : mid.pass.1 ≡ record old.pass.1 { log = log; refusals = old.pass.1.refusals } =
      view.1 ∙ ap (λ (m : MutatorState R). did (reread m.pass.1 place) (Stood place)) was
      in
      let shown : new.pass.1 ≡ record old.pass.1 { log = log; refusals = old.pass.1.refusals } = ap (λ (m : MutatorState R). m.pass.1) is ∙ seen in
      record {
        put_is = put_by old mid new place word is_ref log old.pass.1.refusals
            (λ q. refl)
            (λ q other. put_else (put (stands_of old.pass.1.log) place false) place true q other ∙ put_else (stands_of old.pass.1.log) place false q other)
            (λ p. refl)
            (view.0 ∙ ap (λ (m : MutatorState R). m.pass.0) was, seen)
            (ap (λ (m : MutatorState R). m.refs) rest ∙ ap (λ (m : MutatorState R). m.refs) was)
            (ap (λ (m : MutatorState R). m.wrote) rest ∙ ap (λ (m : MutatorState R). m.wrote) was)
            (ap (λ (m : MutatorState R). m.space) rest ∙ ap (λ (m : MutatorState R). m.space) was)
            (ap (λ (m : MutatorState R). m.reader) rest ∙ ap (λ (m : MutatorState R). m.reader) was)
            (ap (λ (m : MutatorState R). m.next_name) rest ∙ ap (λ (m : MutatorState R). m.next_name) was)
            is;
        pinned = inl (ap (λ (v : View). stands_of v.log place) shown ∙ put_here (put (stands_of old.pass.1.log) place false) place true);
        calm = ap (λ (v : View). v.refusals) shown;
      }

  after_none : (pages : ℕ) (old first mid new : MutatorState R) (place word : ℕ) (is_ref : Bool) → first ≡ stored old place word
      → ((page : ℕ) → Names pages (word_of first.pass.1.log place) page → ⊥)
      → Becomes first.pass mid.pass (reread first.pass.1 place) → mid ≡ checked first mid → new ≡ tagged mid place is_ref
      → PutFacts pages old new place word is_ref
  after_none pages old first mid new place word is_ref was none view rest is =
      let before : MutatorState R = stored old place word in
      let log : List Deed = (reread before.pass.1 place).log in
      let seen : mid.pass.1 ≡ record old.pass.1 { log = log; refusals = old.pass.1.refusals } =
      view.1 ∙ ap (λ (m : MutatorState R). reread m.pass.1 place) was
      in
      let shown : new.pass.1 ≡ record old.pass.1 { log = log; refusals = old.pass.1.refusals } = ap (λ (m : MutatorState R). m.pass.1) is ∙ seen in
      let same : word_of new.pass.1.log place ≡ word_of first.pass.1.log place =
      ap (λ (v : View). word_of v.log place) shown ∙ ap (λ (m : MutatorState R). word_of m.pass.1.log place) (sym was)
      in
      record {
        put_is = put_by old mid new place word is_ref log old.pass.1.refusals
            (λ q. refl)
            (λ q other. put_else (stands_of old.pass.1.log) place false q other)
            (λ p. refl)
            (view.0 ∙ ap (λ (m : MutatorState R). m.pass.0) was, seen)
            (ap (λ (m : MutatorState R). m.refs) rest ∙ ap (λ (m : MutatorState R). m.refs) was)
            (ap (λ (m : MutatorState R). m.wrote) rest ∙ ap (λ (m : MutatorState R). m.wrote) was)
            (ap (λ (m : MutatorState R). m.space) rest ∙ ap (λ (m : MutatorState R). m.space) was)
            (ap (λ (m : MutatorState R). m.reader) rest ∙ ap (λ (m : MutatorState R). m.reader) was)
            (ap (λ (m : MutatorState R). m.next_name) rest ∙ ap (λ (m : MutatorState R). m.next_name) was)
            is;
        pinned = inr (λ page named. none page (subst (λ (a : ℕ). Names pages a page) same named));
        calm = ap (λ (v : View). v.refusals) shown;
      }

  pub put_well : (pages : ℕ) (old first mid new : MutatorState R) (place word : ℕ) (is_ref : Bool) → first ≡ stored old place word → Stands pages first.pass mid.pass place
      → mid ≡ checked first mid → new ≡ tagged mid place is_ref → PutFacts pages old new place word is_ref
  put_well pages old first mid new place word is_ref was (inl stands) rest is = after_stood pages old first mid new place word is_ref was stands.2 rest is
  put_well pages old first mid new place word is_ref was (inr none) rest is = after_none pages old first mid new place word is_ref was none.0 none.1 rest is

  -- what is told where the page that the word names has a mark
  abbrev pub Refuses : ℕ → MutatorState R → MutatorState R → ℕ → Busy → Type 0
  Refuses pages first mid place busy =
      (page : ℕ) × Names pages (word_of first.pass.1.log place) page × (busy.unit ≡ Page page) × (mark_in busy.word ≢ 0)
      × Becomes first.pass mid.pass (refused (reread first.pass.1 place) page busy.word)

  -- and what is left once the place was cleared again
  pub put_refused : (pages : ℕ) (old first mid again new : MutatorState R) (place word : ℕ) (busy : Busy) → first ≡ stored old place word → Refuses pages first mid place busy
      → mid ≡ checked first mid → again ≡ stored mid place 0 → new ≡ tagged again place true
      → HasPut old new place 0 true × IsMarked pages word old new busy
  put_refused pages old first mid again new place word busy was told rest next is =
      let page = told.0 in
      let before : MutatorState R = stored old place word in
      let f : ℕ → ℕ = word_of old.pass.1.log in
      let seen : mid.pass.1 ≡ refused (reread before.pass.1 place) page busy.word =
      told.4.1 ∙ ap (λ (m : MutatorState R). refused (reread m.pass.1 place) page busy.word) was
      in
      let left : View = did (refused (reread before.pass.1 place) page busy.word) (Stored place 0) in
      let now_seen : again.pass.1 ≡ left = ap (λ (m : MutatorState R). m.pass.1) next ∙ ap (λ (v : View). did v (Stored place 0)) seen in (
        put_by old again new place 0 true left.log left.refusals
            (λ q. put_cases (λ x. x ≡ put f place 0 q) (put f place word) place 0 q (λ here. sym (put_at f place 0 q here)) (λ other. put_else f place word q other ∙ sym (put_else f place 0 q other)))
            (λ q other. put_else (put (stands_of old.pass.1.log) place false) place false q other ∙ put_else (stands_of old.pass.1.log) place false q other)
            (λ p. refl)
            (ap (λ (m : MutatorState R). m.pass.0) next ∙ told.4.0 ∙ ap (λ (m : MutatorState R). m.pass.0) was, now_seen)
            (ap (λ (m : MutatorState R). m.refs) next ∙ ap (λ (m : MutatorState R). m.refs) rest ∙ ap (λ (m : MutatorState R). m.refs) was)
            (ap (λ (m : MutatorState R). m.wrote) next ∙ ap (λ (l : List Bool). set l place true) (ap (λ (m : MutatorState R). m.wrote) rest ∙ ap (λ (m : MutatorState R). m.wrote) was) ∙ set-set old.wrote place true true)
            (ap (λ (m : MutatorState R). m.space) next ∙ ap (λ (m : MutatorState R). m.space) rest ∙ ap (λ (m : MutatorState R). m.space) was)
            (ap (λ (m : MutatorState R). m.reader) next ∙ ap (λ (m : MutatorState R). m.reader) rest ∙ ap (λ (m : MutatorState R). m.reader) was)
            (ap (λ (m : MutatorState R). m.next_name) next ∙ ap (λ (m : MutatorState R). m.next_name) rest ∙ ap (λ (m : MutatorState R). m.next_name) was)
            is,
        record {
          page = page;
          named = subst (λ (a : ℕ). Names pages a page) (ap (λ (m : MutatorState R). word_of m.pass.1.log place) was ∙ put_here f place word) told.1;
          unit = told.2;
          mark = told.3;
          refused = ap (λ (m : MutatorState R). m.pass.1.refusals) is ∙ ap (λ (v : View). v.refusals) now_seen;
        },
      )
