use Rattle.trace_lines.specs.Words.{seen}
use Rattle.trace_lines.proofs.Forms.{no_name}
use Rattle.trace_lines.proofs.line.call_of.Goals as goal

pub returns-in-None : goal.returns-in-None
returns-in-None c = record {
  range = tt;
  text = tt;
  err = no_name c.args.head.now.version c.args.head.now.processors c.args.head.now.spaces c.args.processor.now c.args.name.now
      (seen c.args.arguments.now) c.in-None.ensures.none;
}
