use Rattle.oo7_dump.proofs.dumping.lines.Goals as goal

pub root_addresses-requires-clause-home : goal.root_addresses-requires-clause-home
root_addresses-requires-clause-home c = λ image is. (c.requires.sound 2 image is).0
