use Rattle.std.proofs.Common.{rules, ◌≡◌}
use Rattle.messages.specs.Answers.{burst_at}
use Rattle.messages.specs.code.Reading.{said_burst, burst-stood}
use Rattle.messages.proofs.answers.read_burst.Goals as goal

pub returns : goal.returns
returns c = let a = c.args in
    let e : said_burst c.read_columns.result c.read_columns.new.list ≡ burst_at a.len a.b a.h a.r.src.now a.r.at = search rules in
    burst-stood a.len a.b a.h a.r.src.now a.r.at c.read_columns.result c.read_columns.new.list e
