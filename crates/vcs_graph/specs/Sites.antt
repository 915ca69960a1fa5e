-- What an id is in the line, seen from the cursor.
use Rattle.std.specs.Prelude.{ℕ, List, [], ◌∷◌}
use Rattle.line_theory.specs.Shapes.{Item, lone, block}
use Rattle.line_theory.specs.Lines.{Closing, Spot, at_lone, at_lemma, at_inner, at_closer, missing}
use Rattle.line_theory.specs.Edits.{Seat, among, open_lemma, open_inner, behind, nowhere}
use Rattle.vcs_graph.specs.declared.place.Part.{Part}
use Rattle.vcs_graph.specs.declared.place.Part.TheVariants as part
use Rattle.vcs_graph.specs.declared.site.Site.{Site}
use Rattle.vcs_graph.specs.declared.site.Site.TheVariants as site

-- of where an id stands, what it is there
abbrev pub spot_site : Spot → Site
spot_site (at_lone a t) = site.Lone
spot_site (at_lemma a b c t) = site.Lemma c.opaque
spot_site (at_inner a l f k c t) = site.Inner c.opaque
spot_site (at_closer a l b c t) = site.Closer
spot_site missing = site.Nowhere

-- of where an id stands in the line, what it is there
abbrev pub seat_site : Seat → Site
seat_site (among s) = spot_site s
seat_site (open_lemma l b) = site.OpenLemma
seat_site (open_inner l f k) = site.OpenInner
seat_site (behind c) = site.Behind c
seat_site nowhere = site.Nowhere

-- what a part of an item before the cursor is
abbrev pub part_site : Part → Item ℕ Closing → Site
part_site p (lone i) = site.Lone
part_site part.First (block l b c) = site.Lemma c.opaque
part_site (part.Inside j) (block l b c) = site.Inner c.opaque
part_site part.Closer (block l b c) = site.Closer

-- what a part of the block is in which the cursor stands, whose closer has this id
abbrev pub open_part_site : Part → ℕ → Site
open_part_site part.First c = site.OpenLemma
open_part_site (part.Inside j) c = site.OpenInner
open_part_site part.Closer c = site.Behind c

-- the same of the first of some items; where there is none, of the block that is open at the end
abbrev pub place_site : Part → List (Item ℕ Closing) → Site
place_site p (x ∷ t) = part_site p x
place_site p [] = open_part_site p 1
