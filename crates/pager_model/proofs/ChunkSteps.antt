-- What the proofs by hand cite.
pub use Rattle.std.proofs.Common.{◌≡◌, ℕ, zero, suc, ◌+◌, ◌-◌, ◌*◌, ◌^◌, ◌<◌, ◌≤◌, List, [], ◌∷◌, length, refl, sym, ap, subst, ◌∙◌, lit<, w64, arith}
pub use Rattle.std.proofs.raw_atomic.Walks.{proved}
pub use base.Fraction.{full_share}
pub use base.Logic.{SProp, ent, id⊢, via, sep, ex, mono_l, never, never_e}
pub use base.Fml.{Fml, Share, ftrue, fsep, fex, flt, feq, fat, froom, fdies, flft, fdead, fbor, fobor, flent, finv, fnamed}
pub use mir.Syntax.{ty_int, ty_array, named}
pub use mir.Val.{Val, vunit, vint, vptr, vstruct, vcons, vnil}
pub use contract.Monad.{fact}
pub use contract.Running.{tables}
pub use types.Logic.{Logic, sem}
pub use types.Kit.{‵, raw, ◌⊛◌, some, given, later, prop, at_ret, Sq, ◌$◌, ◌∵◌, !, qed, by, done, move, keep, drop, use0, use1, use2, use3, split, join, fsplit, fsplit3, fjoin, fjoin3, fpick, fpack, feq_i, feq_l, flt_i, flt_l, pick, learn, await, rewrite, regoal, suffices, frame, group, updating, now, show, assume, check}
pub use types.Run.{enter, of_opd, lit, unit_lit, bin, addr, load, look, store, init, stop, fld, hop, from, no_more, and_then, assigns, assigns_last, first, blocks, branches, skips, exec, returns, returns_within, well_typed}
pub use types.ByLocal.{alloc_all, pass_all, free_all, look_at, get, get_in, through, sets, sets_last, lands_as, env}
pub use denote.Builtin.{u64, usize, unit}
pub use denote.Exit.{yes}
pub use denote.RattleType.{owns}
pub use denote.Laws.{Is, shows}
pub use denote.Plain.{uint_in, uint_out, uint_Makes, uint_vals, uint_Tells}
pub use denote.RawPtr.{Ptr, ptr_val, RawPtr, block_ptr, null_ptr, block_of, count_of, room_for, room_at, lies_at, in_block, in_a_block, rawptr_vals, rawptr_Tells, rawptr_Lawful, ◌+ₚ◌}
pub use denote.Signature.{plain}
pub use denote.Steps.{nothing, owned, heard, peeks, only}
pub use denote.Triple.Call.{calls_at, calls_at_last}
pub use denote.Triple.Clauses.{lasts}
pub use denote.Triple.Entry.{on_entry}
pub use denote.Triple.Spec.{triple_of}
pub use denote.Triple.Table.{framed}
pub use denote.Triple.Walked.{Stays, walk_of, says, stay_dropped, Goes-dropped, ends_at}
