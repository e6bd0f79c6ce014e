-- A walk over the composed maps of trees.
use Rattle.std.proofs.Common.{◌≡◌, ℕ, ◌<◌, ◌+◌, List, ◌++◌, map, subst, length, drop, get_or, ap, sym, ◌∙◌}
use Rattle.av_affine.specs.declared.map.Map.{Map}
use Rattle.av_flat.specs.declared.tree.Tree.{Tree as TreeMade}
use Rattle.av_flat.specs.Trees.{Tree, Trees, more, trees_of, view}
use Rattle.av_flat.specs.Quantities.{of_map, composed_maps, composed_maps_of_all}
use Rattle.av_flat.specs.declared.tree.Tree.TheVariants as made
use Rattle.av_flat.proofs.Views.{view_case}
use Rattle.av_normal.specs.declared.fault.NormalFault.{NormalFault}
use Rattle.av_normal.specs.Searches.{AreNarrow, IsWide}
use Rattle.av_normal.specs.inner.UnderMaps.{AreUnder, StandsUnder, StandUnder}
use Rattle.av_normal.proofs.Searching.{narrow_append, wide_first, wide_second}
use Rattle.av_base.proofs.Lists.{next_item}

abbrev pub Narrow : List Map → Type 0
Narrow ms = AreNarrow (map of_map ms)

abbrev pub Wide : List Map → NormalFault → Type 0
Wide ms f = IsWide (map of_map ms) f

pub next_tree : (ds : List Map) (all : Trees) (trees : List TreeMade) (i : ℕ) (t : TreeMade) → i < length trees → t ≡ get_or trees i t
    → AreUnder ds all (trees_of (map view (drop i trees))) → AreUnder ds all (more (view t) (trees_of (map view (drop (i + 1) trees))))
next_tree ds all trees i t l e h = let P : List TreeMade → Type 0 = λ (rest : List TreeMade). AreUnder ds all (trees_of (map view rest)) in subst P (next_item trees i t l e) h

module _ (ds : List Map) (all : Trees) (t : Tree) (ts : Trees) (h : AreUnder ds all (more t ts)) where
  pub one_tree_more : Narrow (composed_maps ds t) → AreUnder ds all ts
  one_tree_more n = record {
    stand = h.stand.1;
    narrow = λ s. h.narrow (narrow_append of_map (composed_maps ds t) (composed_maps_of_all ds ts) n s);
    first = λ f s. h.first f (wide_second of_map (composed_maps ds t) (composed_maps_of_all ds ts) f n s);
  }

  pub tree_refused : (f : NormalFault) → Wide (composed_maps ds t) f → Wide (composed_maps_of_all ds all) f
  tree_refused f w = h.first f (wide_first of_map (composed_maps ds t) (composed_maps_of_all ds ts) f w)

-- ---- four operands

module _ (a b c d : List Map) where
  pub four_narrow : Narrow a → Narrow b → Narrow c → Narrow d → Narrow (a ++ b ++ c ++ d)
  four_narrow h i j k = narrow_append of_map (a ++ b ++ c) d (narrow_append of_map (a ++ b) c (narrow_append of_map a b h i) j) k

  pub four_first : (f : NormalFault) → Wide a f → Wide (a ++ b ++ c ++ d) f
  four_first f w = wide_first of_map (a ++ b ++ c) d f (wide_first of_map (a ++ b) c f (wide_first of_map a b f w))

  pub four_second : (f : NormalFault) → Narrow a → Wide b f → Wide (a ++ b ++ c ++ d) f
  four_second f h w = wide_first of_map (a ++ b ++ c) d f (wide_first of_map (a ++ b) c f (wide_second of_map a b f h w))

  pub four_third : (f : NormalFault) → Narrow a → Narrow b → Wide c f → Wide (a ++ b ++ c ++ d) f
  four_third f h i w = wide_first of_map (a ++ b ++ c) d f (wide_second of_map (a ++ b) c f (narrow_append of_map a b h i) w)

  pub four_fourth : (f : NormalFault) → Narrow a → Narrow b → Narrow c → Wide d f → Wide (a ++ b ++ c ++ d) f
  four_fourth f h i j w = wide_second of_map (a ++ b ++ c) d f (narrow_append of_map (a ++ b) c (narrow_append of_map a b h i) j) w

-- ---- branches

-- the branches of a case stand where it does
pub case_stands : (ds : List Map) (u : TreeMade) (ts us : List TreeMade) → u ≡ made.Case ts → us ≡ ts → StandsUnder ds (view u) → StandUnder ds (trees_of (map view us))
case_stands ds u ts us e f h =
    let P : Tree → Type 0 = λ (t : Tree). StandsUnder ds t in
    let k = subst P (ap view e ∙ view_case ts) h in
    subst (λ (xs : List TreeMade). StandUnder ds (trees_of (map view xs))) (sym f) k
