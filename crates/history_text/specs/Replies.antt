-- What the words of an answer's line say.
use Rattle.std.specs.Prelude.{ℕ, ◌≢◌, List, ◌++◌}
use Rattle.pager_model.specs.declared.reply.Reply.{Reply}
use Rattle.pager_model.specs.declared.reply.Reply.TheVariants.{Value, NoFrames, StoreFault, Busy}
use Rattle.pager_model.specs.PrintedText.{reply_words}
use Rattle.history_text.specs.HistoryText.{FitsReply}

-- a reply of one word
abbrev pub IsPlain : Reply → Type 0
IsPlain (Value word) = ⊥
IsPlain (NoFrames wired claimed held) = ⊥
IsPlain (StoreFault space count) = ⊥
IsPlain (Busy page) = ⊥
IsPlain reply = Unit {0}

-- these words begin with no reply
abbrev pub NoReplyIn : List (List ℕ) → Type 0
NoReplyIn words = (reply : Reply) (others : List (List ℕ)) → FitsReply reply → words ≢ reply_words reply ++ others
