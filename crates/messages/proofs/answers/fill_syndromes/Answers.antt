use Rattle.std.proofs.Common.{rules, ◌≡◌, length}
use Rattle.messages.specs.Numbers.{number_at, numbers_at}
use Rattle.messages.specs.code.Reading.{said_next, said_numbers, burst-filled}
use Rattle.messages.proofs.answers.fill_syndromes.Goals as goal

pub returns : goal.returns
returns c =
    let s = c.args.s.now in
    let k = c.next-kind in
    let l = c.fill-read in
    let e : said_next k.result k.new.self.at ≡ number_at s 0 = search rules in
    let f : said_numbers l.result l.new.list l.new.self.at ≡ numbers_at (length c.args.list.now) s k.new.self.at = search rules in
    burst-filled (length c.args.list.now) s c.requires k.result l.result l.new.list k.new.self.at l.new.self.at e f
