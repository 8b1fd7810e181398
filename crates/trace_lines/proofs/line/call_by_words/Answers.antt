use Rattle.std.proofs.Common.{◌<◌, length, arith}
use Rattle.trace_lines.specs.Words.{words_of}
use Rattle.trace_lines.proofs.Forms.{call_too_long}
use Rattle.trace_lines.proofs.line.call_by_words.Goals as goal

pub returns-in_default : goal.returns-in_default
returns-in_default c =
    let more : 7 < length (words_of c.args.line.now) = let most = c.in_default.ensures.none in omega arith in
    record {
      range = tt;
      text = tt;
      err = call_too_long c.args.head.now.version c.args.head.now.processors c.args.head.now.spaces
          (words_of c.args.line.now) more;
    }
