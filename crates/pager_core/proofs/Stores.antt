-- The stores of the spaces of a run: their order, what was told of them at the start, and what holds of them when the run ended.
use Rattle.std.proofs.Common.{◌≡◌, ℕ, zero, suc, ◌+◌, ◌<◌, ◌≤◌, Bool, true, false, List, [], ◌∷◌, ◌++◌, length, map, reverse, drop, take, replicate, get_or, slice_get, fold, Some, IsSomeAnd, refl, ap, sym, subst, ◌∙◌, inl, inr, option_map, arith}
use Rattle.std.specs.List.{All}
use Rattle.std.proofs.lemmas.Grind.{reverse_onto}
use Rattle.std.proofs.lemmas.List.{append_assoc, length-append, length-drop, length-reverse, reverse-reverse, reverse-append, map_push}
use Rattle.std.proofs.lemmas.List.Elements.{All-replicate}
use Rattle.std.proofs.lemmas.Option.{slice_get-map, get_or_from_slice_get}
use Rattle.std.proofs.Math.ListN.{length-map, length-replicate}
use Rattle.std.proofs.Math.Seq.{take-append_seam, drop-append_seam}
use Rattle.pager_model.specs.Options.{is_that}
use Rattle.pager_model.specs.declared.entry.Entry.{Entry}
use Rattle.pager_model.specs.declared.entry.Numbered.{Numbered}
use Rattle.pager_model.specs.Entries.{space_part}
use Rattle.pager_model.specs.FrameStates.{FrameState}
use Rattle.pager_model.specs.Legal.{space_at, entries_in}
use Rattle.pager_model.specs.Settings.{Given, is_told, faults_at_entry}
use Rattle.pager_model.specs.SizeSets.{SizeSet}
use Rattle.pager_model.specs.SpaceStates.{SpaceState, empty_state, space_after}
use Rattle.pager_model.specs.Stored.{Stored, TellsZero}
use Rattle.pager_model.specs.Stores.{given_over, EndsWith, StoresEnd}
use Rattle.space_core.specs.Rooms.{Capacity}
use Rattle.space_core.specs.Standing.{Kept, is_in}
use Rattle.pager_core.specs.RunParts.{AreRoomsOver, IsNew, AreNewSpaces, AreAtRest}
use Rattle.pager_core.proofs.Lists.{slice_get-push}

-- Their order.

map-reverse : {X Y : Type 0} (f : X → Y) (xs : List X) → map f (reverse xs) ≡ reverse (map f xs)
map-reverse f [] = refl
map-reverse f (x ∷ xs) = ap (map f) (reverse_onto xs x []) ∙ map_push f (reverse xs) x ∙ ap (λ l. l ++ f x ∷ []) (map-reverse f xs)
    ∙ sym (reverse_onto (map f xs) (f x) [])

-- stores that stand behind others, last first, come before them in their order
in_order : {P : Type 0} (seen : P → Stored) (others all : List P) (own : List Stored) → map seen all ≡ map seen others ++ reverse own
    → map seen (reverse all) ≡ own ++ map seen (reverse others)
in_order seen others all own behind =
    map-reverse seen all
    ∙ ap reverse behind
    ∙ reverse-append (map seen others) (reverse own)
    ∙ ap (λ l. l ++ reverse (map seen others)) (reverse-reverse own)
    ∙ ap (λ l. own ++ l) (sym (map-reverse seen others))

-- so they do once they are reversed, and there are as many
pub given_back : {P : Type 0} (seen : P → Stored) (others all reversed : List P) (own : List Stored) → reversed ≡ reverse all
    → map seen all ≡ map seen others ++ reverse own → map seen reversed ≡ own ++ map seen (reverse others)
given_back seen others all reversed own is behind = ap (map seen) is ∙ in_order seen others all own behind

pub length-given_back : {P : Type 0} (seen : P → Stored) (others reversed : List P) (spaces : List Kept)
    → map seen reversed ≡ map (λ (k : Kept). k.store) spaces ++ map seen (reverse others) → length reversed ≡ length spaces + length others
length-given_back seen others reversed spaces are =
    let all = ap length are in
    let both = length-append (map (λ (k : Kept). k.store) spaces) (map seen (reverse others)) in
    let own = length-map spaces (λ (k : Kept). k.store) in
    let left = length-map (reverse others) seen in
    let same = length-map reversed seen in
    let long = length-reverse others in
    omega (arith, all, both, own, left, same, long)

pub reversed_back : {P : Type 0} (seen : P → Stored) (xs ys : List P) → ys ≡ reverse xs → map seen (reverse ys) ≡ map seen xs
reversed_back seen xs ys reversed = ap (λ l. map seen (reverse l)) reversed ∙ ap (map seen) (reverse-reverse xs)

-- the store of the last space comes behind those that were given back
pub given_back-more : {P : Type 0} (seen : P → Stored) (stores more : List P) (store : P) (spaces fewer : List Kept) (space : Kept)
    → spaces ≡ fewer ++ space ∷ [] → more ≡ stores ++ store ∷ [] → seen store ≡ space.store
    → map seen more ++ reverse (map (λ (k : Kept). k.store) fewer) ≡ map seen stores ++ reverse (map (λ (k : Kept). k.store) spaces)
given_back-more seen stores more store spaces fewer space are are_more is =
    let had : List Stored = map seen stores in
    let own : List Stored = map (λ (k : Kept). k.store) fewer in
    ap (λ l. map seen l ++ reverse own) are_more ∙ ap (λ l. l ++ reverse own) (map_push seen stores store)
    ∙ append_assoc had (seen store ∷ []) (reverse own) ∙ ap (λ x. had ++ x ∷ reverse own) is
    ∙ sym (ap (λ l. had ++ l) (reverse-append own (space.store ∷ [])))
    ∙ sym (ap (λ l. had ++ reverse l) (map_push (λ (k : Kept). k.store) fewer space))
    ∙ sym (ap (λ l. had ++ reverse (map (λ (k : Kept). k.store) l)) are)

-- of the stores that are left, last first, the next goes to a space that comes behind the others
pub in_order-more : {P : Type 0} (seen : P → Stored) (left fewer : List P) (store : P) (spaces : List Kept) (space : Kept)
    → left ≡ fewer ++ store ∷ [] → space.store ≡ seen store
    → map (λ (k : Kept). k.store) spaces ++ map seen (reverse left)
    ≡ map (λ (k : Kept). k.store) (spaces ++ space ∷ []) ++ map seen (reverse fewer)
in_order-more seen left fewer store spaces space are is =
    let own : List Stored = map (λ (k : Kept). k.store) spaces in
    let rest : List Stored = map seen (reverse fewer) in
    ap (λ l. own ++ map seen (reverse l)) are ∙ ap (λ l. own ++ map seen l) (reverse-append fewer (store ∷ []))
    ∙ ap (λ x. own ++ x ∷ rest) (sym is) ∙ sym (append_assoc own (space.store ∷ []) rest)
    ∙ ap (λ l. l ++ rest) (sym (map_push (λ (k : Kept). k.store) spaces space))

-- all but those that the spaces have are left
pub as_long : {P : Type 0} (seen : P → Stored) (all left : List P) (n : ℕ) → map seen (reverse left) ≡ drop n (map seen all)
    → n ≤ length all → length left + n ≡ length all
as_long seen all left n are enough =
    let same = ap length are in
    let before = length-map all seen in
    let after = length-map (reverse left) seen in
    let dropped = length-drop n (map seen all) in
    let reversed = length-reverse left in
    omega (arith, same, before, after, dropped, reversed, enough)

pub slice_get-take : {X : Type 0} (n : ℕ) (xs : List X) (i : ℕ) → i < n → slice_get (take n xs) i ≡ slice_get xs i
slice_get-take zero xs i below = absurd (omega (arith, below))
slice_get-take (suc n) [] i below = refl
slice_get-take (suc n) (x ∷ xs) zero below = refl
slice_get-take (suc n) (x ∷ xs) (suc i) below = slice_get-take n xs i (omega (arith, below))

-- where the first of a list are those of another, what holds of those there holds of its first
of_first : {X Y : Type 0} (f : X → Y) (xs : List X) (ys : List Y) (i : ℕ) (P : Y → Type 0) → i < length xs
    → ((x : X) → slice_get xs i ≡ Some x → P (f x)) → IsSomeAnd (slice_get (map f xs ++ ys) i) P
of_first f [] ys i P below all = absurd (omega (arith, below))
of_first f (x ∷ xs) ys zero P below all = all x refl
of_first f (x ∷ xs) ys (suc i) P below all = of_first f xs ys i P (omega (arith, below)) all

-- the spaces use the first of the stores
pub first_used : (spaces : List Kept) (others all : List Stored) (n : ℕ) → all ≡ map (λ (k : Kept). k.store) spaces ++ others
    → length spaces ≡ n → map (λ (k : Kept). k.store) spaces ≡ take n all
first_used spaces others all n are count =
    let own : List Stored = map (λ (k : Kept). k.store) spaces in
    sym (ap (take n) are ∙ ap (λ m. take m (own ++ others)) (sym (length-map spaces (λ (k : Kept). k.store) ∙ count))
    ∙ take-append_seam own others)

-- and those that no space uses are the last
pub left_over : (spaces : List Kept) (others all : List Stored) (n : ℕ) → all ≡ map (λ (k : Kept). k.store) spaces ++ others
    → length spaces ≡ n → drop n all ≡ others
left_over spaces others all n are count =
    ap (drop n) are
    ∙ ap (λ m. drop m (map (λ (k : Kept). k.store) spaces ++ others)) (sym (length-map spaces (λ (k : Kept). k.store) ∙ count))
    ∙ drop-append_seam (map (λ (k : Kept). k.store) spaces) others

-- What is read off the stores one by one.

pub read_more : {X Y : Type 0} (f : X → Y) (xs : List X) (x : X) (ys : List Y) (y : Y) → ys ≡ map f xs → y ≡ f x
    → ys ++ y ∷ [] ≡ map f (xs ++ x ∷ [])
read_more f xs x ys y are is = ap (λ l. l ++ y ∷ []) are ∙ ap (λ z. map f xs ++ z ∷ []) is ∙ sym (map_push f xs x)

-- what holds of each of the stores
abbrev pub Each : (Stored → Type 0) → List Stored → Type 0
Each P stores = (k : ℕ) (store : Stored) → slice_get stores k ≡ Some store → P store

pub Each-push : (P : Stored → Type 0) (xs xs' : List Stored) (x : Stored) → xs' ≡ xs ++ x ∷ [] → Each P xs → P x → Each P xs'
Each-push P xs xs' x more are is k store at =
    elim (slice_get-push xs x k store (subst (λ l. slice_get l k ≡ Some store) more at)) [
      | inl before ↦ are k store before
      | inr last ↦ subst P last.1 is
    ]

-- where a store says that it tells its copies and that all of them are zero it does so
abbrev pub IsZeroIfTold : Stored → Type 0
IsZeroIfTold store = store.told ≡ true → TellsZero store

-- each space is as a run begins with it, whatever was told of its store that is so
abbrev pub AreNew : Capacity → List Kept → Type 0
AreNew room spaces =
    (s : ℕ) (kept : Kept) (told : Bool) → slice_get spaces s ≡ Some kept → (told ≡ true → TellsZero kept.store)
    → IsNew room.sizes room.frames room.processors s told kept.store.faults kept

-- what is read off the store of this number
read_at : {X Y : Type 0} (f : X → Y) (d : Y) (xs : List X) (i : ℕ) (x : X) → slice_get xs i ≡ Some x → get_or (map f xs) i d ≡ f x
read_at f d xs i x at = get_or_from_slice_get (map f xs) i (f x) d (slice_get-map f xs i ∙ ap (option_map f) at)

-- rooms for the stores that the setting is over
pub AreRoomsOver-made : (frames : ℕ) (z : SizeSet) (marks : List ℕ) (stores : List Stored) (given : Given) (rooms : List Capacity)
    → given ≡ given_over frames z marks stores
    → rooms ≡ replicate (length stores) (record { frames = frames; processors = length marks; sizes = z }) → Each IsZeroIfTold stores
    → AreRoomsOver given stores rooms
AreRoomsOver-made frames z marks stores given rooms is are zeros =
    let told_count = length-map stores (λ (s : Stored). s.told) in
    subst (λ (g : Given). AreRoomsOver g stores rooms) (sym is) (record {
      rooms_are = are ∙ ap (λ n. replicate n (record { frames = frames; processors = length marks; sizes = z })) (sym told_count);
      told = λ s store at told. zeros s store at (sym (read_at (λ (x : Stored). x.told) false stores s store at) ∙ told);
      faults = λ s store at. read_at (λ (x : Stored). x.faults) 0 stores s store at;
    })

-- there are as many as the setting has spaces
pub length-rooms : (given : Given) (stores : List Stored) (rooms : List Capacity) → AreRoomsOver given stores rooms
    → length rooms ≡ length given.told
length-rooms given stores rooms over =
    let room : Capacity = record { frames = given.frames; processors = length given.marks; sizes = given.sizes } in
    ap length over.rooms_are ∙ length-replicate (length given.told) room

-- The start: each space is in one of the rooms and over the store of its number, and what the setting says of the store is so.
pub are_new : (given : Given) (rooms : List Capacity) (spaces : List Kept) → length spaces ≡ length rooms
    → ((room : Capacity) → All (λ r. r ≡ room) rooms → AreNew room spaces)
    → AreRoomsOver given (map (λ (k : Kept). k.store) spaces) rooms → AreNewSpaces given spaces
are_new given rooms spaces count each over =
    let room : Capacity = record { frames = given.frames; processors = length given.marks; sizes = given.sizes } in
    let alike : All (λ r. r ≡ room) rooms = subst (All (λ r. r ≡ room)) (sym over.rooms_are)
    (All-replicate (λ r. r ≡ room) (length given.told) room refl) in
    record {
      count = count ∙ length-rooms given (map (λ (k : Kept). k.store) spaces) rooms over;
      new = λ s kept at.
          let store : slice_get (map (λ (k : Kept). k.store) spaces) s ≡ Some kept.store =
          slice_get-map (λ (k : Kept). k.store) spaces s ∙ ap (option_map (λ (k : Kept). k.store)) at in
          subst (λ f. IsNew given.sizes given.frames (length given.marks) s (is_told given s) f kept) (sym (over.faults s kept.store store))
          (each room alike s kept (is_told given s) at (over.told s kept.store store));
    }

pub AreNew-push : (room : Capacity) (spaces more : List Kept) (space : Kept) → AreNew room spaces → more ≡ spaces ++ space ∷ []
    → ((told : Bool) → (told ≡ true → TellsZero space.store) → IsNew room.sizes room.frames room.processors
    (length spaces) told space.store.faults space)
    → AreNew room more
AreNew-push room spaces more space are pushed new s kept told at zeros =
    elim (slice_get-push spaces space s kept (subst (λ l. slice_get l s ≡ Some kept) pushed at)) [
      | inl before ↦ are s kept told before zeros
      | inr last ↦ subst (λ n. IsNew room.sizes room.frames room.processors n told kept.store.faults kept) (sym last.0)
          (subst (λ k. IsNew room.sizes room.frames room.processors (length spaces) told k.store.faults k) last.1
          (new told (λ is. subst (λ k. TellsZero k.store) (sym last.1) (zeros is))))
    ]

-- The end.

told_from : (st : SpaceState) (entries : List Entry) → (fold space_after st entries).told ≡ st.told
told_from st [] = refl
told_from st (e ∷ entries) = told_from (space_after st e) entries

told_still : (g : Given) (h : List Entry) (s : ℕ) → (space_at g h s).told ≡ is_told g s
told_still g h s = told_from (empty_state g.sizes (is_told g s) (faults_at_entry g s)) (space_part s h)

module _ (given : Given) (history : List Numbered) (spaces : List Kept) (pool : FrameState)
    (rest : AreAtRest given (entries_in history) spaces pool) where
  EndsWith-kept : (s : ℕ) (kept : Kept) → slice_get spaces s ≡ Some kept → EndsWith given history s kept.store
  EndsWith-kept s kept at =
      let here = rest.spaces_rest s kept at in
      record {
        tells = λ is. (here.stands.beside.told (told_still given (entries_in history) s ∙ is)).tells;
        copies = λ is page.
            (here.stands.beside.told (told_still given (entries_in history) s ∙ is)).copies page
            (ap (λ r. is_in r page) here.resting.none_clearing) (ap (is_that page) here.resting.none_paged);
        counts = here.stands.beside.highest;
      }

  pub StoresEnd-rest : (others all : List Stored) → all ≡ map (λ (k : Kept). k.store) spaces ++ others → StoresEnd given history all
  StoresEnd-rest others all are s below =
      subst (λ l. IsSomeAnd (slice_get l s) (EndsWith given history s)) (sym are)
      (of_first (λ (k : Kept). k.store) spaces others s (EndsWith given history s) (omega (arith, below, rest.count)) (EndsWith-kept s))
