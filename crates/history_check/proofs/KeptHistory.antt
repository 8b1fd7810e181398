-- What the checker keeps of a history, at its beginning and with one entry more.
use Rattle.std.proofs.Common.{◌≡◌, ℕ, ◌+◌, ◌<◌, ◌≤◌, true, false, List, [], ◌∷◌, ◌++◌, length, length-append, map, get_or, set, Some, None, sym, ap, subst, ◌∙◌, arith}
use Rattle.std.specs.List.{All}
use Rattle.std.proofs.lemmas.Bool.{ne_eqb}
use Rattle.std.proofs.lemmas.List.{get_or-map, get_or-replicate, length-map, length-replicate, length-set}
use Rattle.pager_model.specs.declared.entry.Entry.{Entry}
use Rattle.pager_model.specs.FrameStates.{named_space, start_frames}
use Rattle.pager_model.specs.Legal.{progress_at, space_at}
use Rattle.pager_model.specs.Options.{is_that}
use Rattle.pager_model.specs.Order.{Progress, at_rest}
use Rattle.pager_model.specs.Scripts.{Script}
use Rattle.pager_model.specs.Settings.{Given, faults_at_entry, is_told, mark_of}
use Rattle.pager_model.specs.Showing.{actors, marks_of}
use Rattle.pager_model.specs.SpaceStates.{empty_state}
use Rattle.pager_model.specs.TraceText.{HasText}
use Rattle.pager_model.proofs.Histories.{progress_at-other, space_at-other}
use Rattle.followed_space.specs.Follows.{AnswersLine}
use Rattle.told_space.specs.declared.space.ToldSpace.{ToldSpace}
use Rattle.told_space.specs.Told.{Stands, kept_of}
use Rattle.history_check.specs.declared.checker.Checker.{Checker}
use Rattle.history_check.specs.Standing.{AreKeptAfter, HaveCome, IsKeptAfter, IsNewSpace, StandsAfter, StandsAlone, StandsAt}
use Rattle.history_check.specs.Verdicts.{told_setting}
use Rattle.history_check.proofs.Places.{each-set}

-- Before an entry.

module _ (g : Given) (history : List Entry) (checker : Checker) (stands : StandsAfter g history checker) (e : Entry)
    (processor : e.processor < length checker.progress.items) (before : Progress) (mark : ℕ)
    (before_is : before ≡ get_or checker.progress.items e.processor before) (mark_is : mark ≡ get_or checker.marks.items e.processor 0) where
  known : e.processor < length g.marks
  known = omega (arith, processor, stands.progress.known)

  own_mark : mark ≡ mark_of g e.processor
  own_mark = mark_is ∙ ap (λ ms. get_or ms e.processor 0) stands.marks_are

  own_place : progress_at g history e.processor ≡ Some before
  own_place = stands.progress.each e.processor before processor ∙ ap Some (sym before_is)

  pub made_few : before.made ≤ length history
  made_few = subst (λ (p : Progress). p.made ≤ length history) (sym before_is) (stands.progress.made e.processor before processor)

  pub stands_alone : StandsAlone g history checker.frames before mark e
  stands_alone = record {
    legal = stands.legal;
    frames_are = stands.frames_are;
    spaces_few = stands.spaces_few;
    processor = known;
    mark_is = own_mark;
    at = own_place;
  }

  module _ (s : ℕ) (on : e.space ≡ Some s) (within : s < length checker.spaces.items) (told : ToldSpace)
      (told_is : told ≡ get_or checker.spaces.items s told) (line : AnswersLine e.what) where
    named : s ≡ named_space e.space
    named = sym (ap named_space on)

    kept : IsKeptAfter g history s (kept_of told)
    kept = subst (λ (t : ToldSpace). IsKeptAfter g history s (kept_of t)) (sym told_is) (stands.spaces.each s told within)

    pub stands_at : StandsAt g history checker.frames (kept_of told) before mark (named_space e.space) e
    stands_at = record {
      legal = stands.legal;
      frames_are = stands.frames_are;
      spaces_few = stands.spaces_few;
      space_known = subst (λ n. n < length g.told) named (omega (arith, within, stands.spaces.known));
      stands = subst (λ n. Stands (kept_of told) (space_at g history n)) named kept.stands;
      images = kept.images;
      pages = kept.pages;
      processor = known;
      mark_is = own_mark;
      at = own_place;
      line = line;
    }

-- With it.

-- the space that it names is kept so, and the others are as before
pub AreKept-named : (g : Given) (history : List Entry) (e : Entry) (s : ℕ) (spaces : List ToldSpace) (new : ToldSpace) → s < length spaces
    → e.space ≡ Some s → IsKeptAfter g (history ++ e ∷ []) (named_space e.space) (kept_of new) → AreKeptAfter g history spaces
    → AreKeptAfter g (history ++ e ∷ []) (set spaces s new)
AreKept-named g history e s spaces new within on kept all = record {
  known = length-set spaces s new ∙ all.known;
  each = each-set (λ t told. IsKeptAfter g (history ++ e ∷ []) t (kept_of told)) spaces s new within
      (subst (λ t. IsKeptAfter g (history ++ e ∷ []) t (kept_of new)) (ap named_space on) kept)
      (λ t d below other.
      let was = all.each t d below in record {
        stands = subst (Stands (kept_of (get_or spaces t d)))
            (sym (space_at-other g history e t (ap (is_that t) on ∙ ne_eqb s t (λ is. other (sym is))))) was.stands;
        images = was.images;
        pages = was.pages;
      });
}

pub AreKept-none : (g : Given) (history : List Entry) (e : Entry) (spaces : List ToldSpace) → e.space ≡ None → AreKeptAfter g history spaces
    → AreKeptAfter g (history ++ e ∷ []) spaces
AreKept-none g history e spaces none all = record {
  known = all.known;
  each = λ t d below.
      let was = all.each t d below in record {
        stands = subst (Stands (kept_of (get_or spaces t d))) (sym (space_at-other g history e t (ap (is_that t) none))) was.stands;
        images = was.images;
        pages = was.pages;
      };
}

-- its processor has come so far, and the others are where they were
pub HaveCome-next : (g : Given) (history : List Entry) (e : Entry) (progress : List Progress) (before after : Progress)
    → e.processor < length progress → before ≡ get_or progress e.processor before
    → progress_at g (history ++ e ∷ []) e.processor ≡ Some after → after.made ≤ before.made + 1 → HaveCome g history progress
    → HaveCome g (history ++ e ∷ []) (set progress e.processor after)
HaveCome-next g history e progress before after within is at made all = record {
  known = length-set progress e.processor after ∙ all.known;
  each = each-set (λ c p. progress_at g (history ++ e ∷ []) c ≡ Some p) progress e.processor after within at
      (λ c d below other. progress_at-other g history e c (ne_eqb e.processor c (λ same. other (sym same))) ∙ all.each c d below);
  made = each-set (λ c p. p.made ≤ length (history ++ e ∷ [])) progress e.processor after within
      (let own = subst (λ (p : Progress). p.made ≤ length history) (sym is) (all.made e.processor before within) in
      omega (arith, own, made, one_more))
      (λ c d below _. let was = all.made c d below in omega (arith, was, one_more));
}
  where
    one_more : length (history ++ e ∷ []) ≡ length history + 1
    one_more = length-append history (e ∷ [])

-- At the beginning.

module _ (script : Script) where
  AreKept-new : (spaces : List ToldSpace) → length spaces ≡ script.spaces → All (IsNewSpace script.sizes script.frames (actors script)) spaces
      → AreKeptAfter (told_setting script) [] spaces
  AreKept-new spaces many new = record {
    known = many ∙ sym (length-replicate script.spaces true);
    each = λ s d below.
        let own = new s d below in
        let known : s < script.spaces = omega (arith, below, many) in
        let told : is_told (told_setting script) s ≡ true = get_or-replicate script.spaces s true false known in
        let faults : faults_at_entry (told_setting script) s ≡ 0 = get_or-replicate script.spaces s 0 0 known in
        record {
          stands = subst (λ n. Stands (kept_of (get_or spaces s d)) (empty_state script.sizes (is_told (told_setting script) s) n)) (sym faults)
              (subst (λ b. Stands (kept_of (get_or spaces s d)) (empty_state script.sizes b 0)) (sym told) own.stands);
          images = own.images;
          pages = own.pages;
        };
  }

  HaveCome-new : (progress : List Progress) → progress ≡ map (λ mark. at_rest mark 0) (marks_of script)
      → HaveCome (told_setting script) [] progress
  HaveCome-new progress is = record {
    known = many;
    each = λ c d below. ap Some (sym (own c d below));
    made = λ c d below. subst (λ (p : Progress). p.made ≤ 0) (sym (own c d below)) (omega arith);
  }
    where
      many : length progress ≡ length (marks_of script)
      many = ap length is ∙ length-map (marks_of script) (λ mark. at_rest mark 0)

      own : (c : ℕ) (d : Progress) → c < length progress → get_or progress c d ≡ at_rest (get_or (marks_of script) c 0) 0
      own c d below = ap (λ ps. get_or ps c d) is ∙ get_or-map (λ mark. at_rest mark 0) (marks_of script) c 0 d (omega (arith, below, many))

  pub StandsAfter-new : (checker : Checker) → HasText script → checker.marks.items ≡ marks_of script
      → checker.frames ≡ start_frames script.sizes script.frames (actors script) → length checker.spaces.items ≡ script.spaces
      → All (IsNewSpace script.sizes script.frames (actors script)) checker.spaces.items
      → checker.progress.items ≡ map (λ mark. at_rest mark 0) (marks_of script) → StandsAfter (told_setting script) [] checker
  StandsAfter-new checker text marks frames many new progress =
      let spaces = length-replicate script.spaces true in record {
        legal = tt;
        spaces_few = omega (arith, spaces, text.spaces_in);
        marks_are = marks;
        frames_are = frames;
        spaces = AreKept-new checker.spaces.items many new;
        progress = HaveCome-new checker.progress.items progress;
      }
