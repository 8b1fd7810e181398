use Rattle.std.proofs.Common.{◌≡◌, ◌++◌, length}
use Rattle.trace_lines.specs.Words.{seen, words_of}
use Rattle.trace_lines.proofs.word.words.Given as goal

abbrev pub invariant-loop-word : goal.invariant-loop-word
invariant-loop-word l = seen l.words.items ++ words_of l.rest ≡ words_of l.line

abbrev pub decreases-loop-word : goal.decreases-loop-word
decreases-loop-word l = length l.rest
