-- What a block, which is shared out, and a key to a chunk of it own. Both have parts of the token of a lifetime, for which the words of the
-- block are lent: once each part is back the lifetime ends, and the words go back to the block.
use Rattle.std.specs.Prelude.{◌≡◌, ℕ, zero, suc, ◌+◌, ◌-◌, ◌*◌, ◌%◌, ◌^◌, [], ◌∷◌}
use Rattle.std.specs.Thread.Scope.{refcount_invariant, word_at}
use Rattle.std.specs.Allocator.{array_of}
use Rattle.std.specs.Global.{Global}
use Rattle.std.specs.contracts.impls.GlobalAllocator.TheImpl.{ghosts}
use base.FractionLaws.{Counts}
use base.Fml.{Share, Fml, ftrue, fsep, fex, fall, fdead, fbor, fobor, flent, finv}
use mir.Syntax.{Ty}
use types.RcWeak.{part}
use denote.Builtin.{u64}
use denote.RawPtr.{Ptr, block_of, count_of, room_for, in_block, ◌+ₚ◌}

-- a handle to the heap: all are alike
abbrev pub heap : Global
heap = record { memory = record { seal = tt } }

-- the right to free the block at p, which was taken for such a type
abbrev pub may_free : Ty → Ptr → Fml
may_free = ghosts.dealloc_token heap

-- memory for n words at p
abbrev pub words_at : ℕ → Ptr → Fml
words_at n p = room_for (array_of u64 n) p

-- what the block at p has beside the count, which is its first word: the words after it, and the right to free them all
abbrev pub lent_out : Ptr → Fml
lent_out p = fsep (words_at 65536 (p +ₚ 8)) (may_free (array_of u64 65537) p)

-- what holds of the count of the block at p between any two steps
abbrev pub counted : Ptr → ℕ → Fml
counted p a = refcount_invariant (lent_out p) (block_of p) (count_of p) a

-- n parts of the token of a
abbrev pub parts : ℕ → ℕ → Fml
parts a zero = ftrue
parts a (suc n) = fsep (part 63 a) (parts a n)

-- of the block at p, n chunks that nobody has
abbrev pub block_rest : Ptr → ℕ → ℕ → Fml
block_rest p n a = fsep (finv (counted p a)) (fsep (parts a n) (fbor (a ∷ []) (words_at (n * 1024) (p +ₚ 8))))

abbrev pub block_owns : Ptr → ℕ → Fml
block_owns p n = in_block p (fex ℕ (block_rest p n))

-- the way back of the chunk at q, to the block at p
abbrev pub key_way : Ptr → Ptr → ℕ → Share → Fml
key_way p q a e = fex (Counts 63 e 1) (λ _. fsep (finv (counted p a)) (fobor (a ∷ []) e (words_at 1024 q)))

abbrev pub key_owns : Ptr → Ptr → Fml
key_owns p q = in_block p (fex ℕ (λ a. fex Share (key_way p q a)))

-- what the count becomes as a chunk is given back
abbrev pub one_less : ℕ → ℕ
one_less n = (n + (2 ^ 64 - 1)) % 2 ^ 64

-- what there is once the step found the count n: the last chunk gets the count, and the right to the words, whose lifetime has ended
abbrev pub last_has : Ptr → ℕ → ℕ → Fml
last_has p a n = fall (n ≡ 1) (λ _. fsep (word_at (block_of p) (count_of p) 0) (fsep (fdead (a ∷ [])) (flent (a ∷ []) (lent_out p))))
