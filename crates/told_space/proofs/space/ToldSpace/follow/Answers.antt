use Rattle.std.proofs.Common.{List, refl, sym, subst, ◌∙◌, arith}
use Rattle.pager_model.specs.declared.tile.Tile.{Tile}
use Rattle.told_space.specs.Told.{HasSize, Kept, kept_of, next_of}
use Rattle.told_space.specs.Translations.{AreTouched}
use Rattle.told_space.proofs.FollowedSpaces.{BecomesBy, allowed_after, has_size_after, pages_next, stands_after}
use Rattle.told_space.proofs.space.ToldSpace.follow.Goals as goal

pub follow_words-requires : goal.follow_words-requires
follow_words-requires c = c.requires.next.1.line

pub follow_pages-changed-requires : goal.follow_pages-changed-requires
follow_pages-changed-requires c = record {
  next = (c.requires.next.0, pages_next (kept_of c.args.self.now) c.requires.next.0 c.args.entry.now c.requires.next.1);
}

pub keep_tiles-requires : goal.keep_tiles-requires
keep_tiles-requires c = (c.args.self.now.space.pages, c.follow_pages-changed.ensures.changed, c.requires.next.1.stands.tiles)

pub used_tile-used-requires : goal.used_tile-used-requires
used_tile-used-requires c = c.requires.next.1.line

pub touch-requires : goal.touch-requires
touch-requires c = omega (arith, c.requires.next.1.known, c.keep_tiles.ensures.processors)

pub returns : goal.returns
returns c =
    let e = c.args.entry.now in
    let old = kept_of c.args.self.now in
    let between : List (List Tile) = c.keep_tiles.new.images in
    let new : Kept = record {
      sizes = c.args.self.now.sizes;
      space = c.follow_pages-changed.new.space;
      words = c.follow_words.new.words;
      images = c.touch.new.images;
      next = next_of c.after-self.result;
      highest = c.highest_after-self.result;
    } in
    let becomes : BecomesBy old new e between = record {
      sizes = refl;
      follows = c.follow_pages-changed.ensures.follows;
      words = c.in_ok-follow_words.ensures;
      tiles = c.keep_tiles.ensures;
      used = subst (λ tile. AreTouched e.processor tile between c.touch.new.images) c.used_tile-used.ensures c.touch.ensures;
      next = c.after-self.ensures;
      highest = c.highest_after-self.ensures;
    } in
    record {
      frames = c.follow_pages-changed.ensures.frames;
      images = c.touch.ensures.processors ∙ c.keep_tiles.ensures.processors;
      stands = λ st at copies. stands_after old new e between becomes st at copies;
      allowed = λ is st at. allowed_after old new e between becomes st at (subst (HasSize e.what) c.used_tile-used.ensures (c.has_size-right.ensures.has is));
      refused = λ is st at allowed. c.has_size-right.ensures.other is
          (subst (HasSize e.what) (sym c.used_tile-used.ensures) (has_size_after old new e between becomes st at allowed));
    }
