-- The images of a commit without a pass may follow.
use Rattle.std.proofs.Common.{◌≡◌, ◌+◌, ◌∙◌, inl, inr, ℕ, true, List, Option, Some, None, is_some, sym, ap, subst}
use Rattle.std.specs.Prelude.{slice_index}
use Rattle.std.specs.FinMap.{get}
use Rattle.pm3_types.specs.Fields.{Fields}
use Rattle.pm3_types.specs.Layout.{Sheet, page_in, word_in}
use Rattle.pm3_types.specs.Shown.{IsKnown}
use Rattle.pm3_history.specs.Chronicled.{Chronicled}
use Rattle.pm3_history.specs.Commits.{IsPlainCommit, PlainCommitsFollow}
use Rattle.pm3_history.specs.Entry.{Pass, Done}
use Rattle.pm3_history.specs.Lawful.{MayRefer, IsPlain, MeetsPass}
use Rattle.pm3_history.specs.Persistent.{persistent_book}
use Rattle.pm3_history.specs.State.{State, entry_after}
use Rattle.pm3_history.proofs.Laying.{some_of, laid_below, off_cases, off_keeps}
use Rattle.pm3_history.proofs.Plainly.{owned_none}

module _ (catalog : List Fields) (base : ℕ) (st : State) (d : Done) (chron : Chronicled catalog base st) (commit : IsPlainCommit catalog base st d) where
  -- a page that is written has a last image, and is of no space
  found_there : (q : ℕ) (sheet : Sheet) → get d.written q ≡ Some sheet → (is_some (get st.pages q) ≡ true) × (get st.owner q ≡ None)
  found_there q sheet is =
      let found = some_of (get d.found q) (commit.held q (ap is_some (commit.written q sheet is))) in
      let last = commit.last q found.0 found.1 in
      (ap is_some (sym (laid_below st.pages st.volatile q (owned_none st q (chron.owned q) last.1)) ∙ last.0), last.1)

  persistent_there : (a n : ℕ) (sheet : Sheet) → get st.book a ≡ Some n → get d.written (page_in base a) ≡ Some sheet → get (persistent_book base st) a ≡ Some n
  persistent_there a n sheet has on = off_keeps base st.book st.owner a (found_there (page_in base a) sheet on).1 ∙ has

  -- what the persistent objects have is known, and is on a page of no space
  in_book : (w : ℕ) → IsKnown (persistent_book base st) w → IsKnown st.book w
  in_book w (inl nil) = inl nil
  in_book w (inr is) = (let has = some_of (get (persistent_book base st) w) is in inr (ap is_some (off_cases base st.book st.owner w has.0 has.1).1))

  may : (q w : ℕ) → IsKnown (persistent_book base st) w → MayRefer base st.owner q w
  may q w (inl nil) more = absurd (more nil)
  may q w (inr is) more = (let has = some_of (get (persistent_book base st) w) is in inl (off_cases base st.book st.owner w has.0 has.1).0)

  plain : IsPlain catalog base st (entry_after catalog base st d)
  plain = record {
    persistent = found_there;
    fits = record {
      one = chron.fits.one;
      named = chron.fits.named;
      objects = λ a n sheet has on. commit.fits.objects a n sheet (persistent_there a n sheet has on) (commit.written (page_in base a) sheet on);
      references = λ a n k sheet has on is.
          in_book (slice_index sheet.words (word_in base a + 2 + k))
          (commit.fits.references a n k sheet (persistent_there a n sheet has on) (commit.written (page_in base a) sheet on) is);
      roots = λ slot sheet low on. in_book (slice_index sheet.words (2 + slot)) (commit.fits.roots slot sheet low (commit.written 2 sheet on));
    };
    within = record {
      objects = λ a n k sheet has on is.
          may (page_in base a) (slice_index sheet.words (word_in base a + 2 + k))
          (commit.fits.references a n k sheet (persistent_there a n sheet has on) (commit.written (page_in base a) sheet on) is);
      roots = λ slot sheet low on. may 2 (slice_index sheet.words (2 + slot)) (commit.fits.roots slot sheet low (commit.written 2 sheet on));
    };
  }

pub plain_commits_follow : PlainCommitsFollow
plain_commits_follow catalog base pages st d chron commit =
    subst (λ (pass : Option Pass). MeetsPass catalog base pages st (entry_after catalog base st d) pass) (sym (commit.pass)) (plain catalog base st d chron commit)
