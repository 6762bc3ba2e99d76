use Rattle.std.proofs.Common.{◌≡◌, ◌≤◌, ℕ, List, length, take, Some, sym, ◌∙◌, ap, arith, length-take}
use Rattle.pm3_types.specs.Bytes.{piece}
use Rattle.pm3_journal.specs.FileHead.{head_departure, page_count_of}
use Rattle.pm3_journal.proofs.Faulting.{damaged_same}
use Rattle.pm3_journal.proofs.Scanning.{front_read}
use Rattle.pm3_journal.proofs.device_reading.read_head.Goals as goal

pub returns-in-Ok-decode-clause-head : goal.returns-in-Ok-decode-clause-head
returns-in-Ok-decode-clause-head g c bytes told =
    let window : List ℕ = c.fill.new.self.bytes in
    let over = c.in-Ok.ensures.window bytes (c.fill.ensures.reads.same ∙ told) ∙ ap (λ (a : ℕ). piece a (length c.fill.new.self.bytes) bytes) c.in-Ok.ensures.start in
    let here : c.first.result.now ≡ take 32 bytes = c.first.ensures ∙ front_read bytes c.fill.new.self.bytes over (c.in-Ok.ensures.full bytes told) in
    let pages = c.in-Ok-decode.ensures.pages in
    let long : 32 ≤ length bytes = omega (arith, c.in-Ok-decode.ensures.size, ap length here, length-take 32 bytes) in
    record { fine = ap head_departure (sym here) ∙ pages.0; page_count = ap page_count_of (sym here) ∙ pages.1; there = long }

pub returns-in-Err-clause-damaged : goal.returns-in-Err-clause-damaged
returns-in-Err-clause-damaged g c offset is bytes told =
    let over = c.in-Ok.ensures.window bytes (c.fill.ensures.reads.same ∙ told) ∙ ap (λ (a : ℕ). piece a (length c.fill.new.self.bytes) bytes) c.in-Ok.ensures.start in
    let here : c.first.result.now ≡ take 32 bytes = c.first.ensures ∙ front_read bytes c.fill.new.self.bytes over (c.in-Ok.ensures.full bytes told) in
    ap head_departure (sym here) ∙ c.in-Err.ensures.damaged ∙ ap Some (damaged_same _ _ is)
