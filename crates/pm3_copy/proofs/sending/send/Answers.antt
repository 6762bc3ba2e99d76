use Rattle.std.proofs.Common.{◌∙◌, ap, sym}
use Rattle.std.specs.FinMap as map
use Rattle.pm3_page.specs.PageMap.{Images}
use Rattle.pm3_copy.proofs.Sent.{sent_one, left_home}
use Rattle.pm3_copy.proofs.sending.send.Goals as goal

pub returns-clause-sent : goal.returns-clause-sent
returns-clause-sent c =
    sent_one c.args.page c.in-Some.image c.args.from.now.images c.args.to.now.images c.take.new.self.images c.put.new.self.images (sym c.in-Some.ensures.image)
    (c.requires.home c.args.page c.in-Some.image (sym c.in-Some.ensures.image)) c.in-Some.ensures.images c.put.ensures.images

pub returns-clause-home : goal.returns-clause-home
returns-clause-home c page image on =
    left_home c.args.page c.args.from.now.images c.requires.home page image (sym (ap (λ (m : Images). map.get m page) c.in-Some.ensures.images) ∙ on)
