-- Which of two ways a change goes, by what the id is and whether a zone is open.
use Rattle.std.specs.Prelude.{Bool, true, false}
use Rattle.vcs_graph.specs.declared.site.Site.{Site}
use Rattle.vcs_graph.specs.declared.site.Site.TheVariants.{Nowhere, Lone, Lemma, Inner, Closer, OpenLemma, OpenInner, Behind}

-- an edit opens a zone, and doesn't cut the line
abbrev pub opens_zone : Site → Bool → Bool
opens_zone (Lemma q) true = false
opens_zone (Lemma q) false = q
opens_zone (Inner q) true = false
opens_zone (Inner q) false = q
opens_zone OpenLemma z = z
opens_zone OpenInner z = z
opens_zone Nowhere z = false
opens_zone Lone z = false
opens_zone Closer z = false
opens_zone (Behind c) z = false

-- an id goes with what stands between it and the closer, or the cursor, and not with all behind it
abbrev pub narrows : Site → Bool → Bool
narrows (Inner q) true = false
narrows (Inner q) false = q
narrows OpenInner z = z
narrows (Lemma q) z = false
narrows OpenLemma z = false
narrows Nowhere z = false
narrows Lone z = false
narrows Closer z = false
narrows (Behind c) z = false
