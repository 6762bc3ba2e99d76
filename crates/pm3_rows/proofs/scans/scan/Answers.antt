use Rattle.std.proofs.Common.{rules, ◌≡◌, ℕ, ◌/◌, ◌%◌, List, [], ◌∷◌, ◌++◌, get_or, Some, length, length-append, sym, ap, ◌∙◌, subst, arith}
use Rattle.pm3_core.specs.declared.events.TheConstants.{PLACES, ROW_PLACES}
use Rattle.pm3_table.specs.declared.view.Deed.{Deed}
use Rattle.pm3_table.specs.declared.view.Deed.TheVariants.{Found}
use Rattle.pm3_table.specs.declared.view.View.{View}
use Rattle.pm3_table.specs.Deeds.{marks_of, IsClearedIn}
use Rattle.pm3_table.specs.Ops.{did}
use Rattle.pm3_table.specs.Reads.{read_of, marked_then}
use Rattle.pm3_rows.specs.Scans.{scanned}
use Rattle.pm3_rows.proofs.Scanning.{scanned_more, scanned_clears, scanned_word, full_then}
use Rattle.pm3_rows.proofs.scans.scan.Goals as goal

pub loop-n-preserved : goal.loop-n-preserved
loop-n-preserved g c =
    let n : ℕ = c.loop-n.n in let w : ℕ = c.read_word-word.result in
    let old : View = c.args.pass.now.1 in
    let out : List ℕ = c.loop-n.out in
    let more : c.add.new.self ≡ out ++ w ∷ [] = c.add.ensures in
    let view = c.read_word-word.ensures.view in
    let is_long : length out ≡ n = c.loop-n.invariant.long in
    let log_is : Found (n / ROW_PLACES) (n % ROW_PLACES) w ∷ scanned 0 out old.log ≡ scanned 0 c.add.new.self old.log =
    sym (scanned_more 0 n out w old.log (omega (arith, is_long))) ∙ ap (λ (l : List ℕ). scanned 0 l old.log) (sym more) in
    record {
      long = ap (length {A = ℕ}) more ∙ (length-append out (w ∷ []) ∙ (omega (arith, is_long)));
      view = (view.0 ∙ c.loop-n.invariant.view.0, view.1 ∙ (ap (λ (v : View). did v (Found (n / ROW_PLACES) (n % ROW_PLACES) w)) c.loop-n.invariant.view.1 ∙ (λ i. record old { log = log_is i })));
    }

pub returns-clause-cleared : goal.returns-clause-cleared
returns-clause-cleared g c = λ page marked free.
    let full : length c.loop-n.out ≡ PLACES = search rules in
    subst (λ (l : List Deed). IsClearedIn c.args.shared.now.1.pages l page) (ap (λ (v : View). v.log) (sym c.loop-n.invariant.view.1))
    (scanned_clears c.args.shared.now.1.pages c.loop-n.out c.args.pass.now.1.log page full marked free)

pub returns-clause-words : goal.returns-clause-words
returns-clause-words g c = λ n low.
    let full : length c.loop-n.out ≡ PLACES = search rules in
    subst (λ (l : List Deed). read_of l n ≡ Some (get_or c.loop-n.out n 0)) (ap (λ (v : View). v.log) (sym c.loop-n.invariant.view.1))
    (scanned_word n c.loop-n.out c.args.pass.now.1.log (omega (arith, low, full)))

pub returns-clause-marks : goal.returns-clause-marks
returns-clause-marks g c = λ page.
    let full : length c.loop-n.out ≡ PLACES = search rules in
    subst (λ (l : List Deed). marked_then l page ≡ marks_of c.args.pass.now.1.log page) (ap (λ (v : View). v.log) (sym c.loop-n.invariant.view.1))
    (full_then c.loop-n.out c.args.pass.now.1.log page full)
