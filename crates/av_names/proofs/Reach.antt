-- Names in reach: by sets of names, and part by part.
use Rattle.std.proofs.Common.{◌≡◌, ℕ, ◌+◌, ◌<◌, List, [], ◌∷◌, ◌++◌, length, get_or, take, drop, take-suc, add-one, append-nil, Option, Some, None, Bool, true, not, ◌&&◌, refl, ap, sym, ◌∙◌}
use Rattle.std.specs.List.{flat_map}
use Rattle.std.proofs.Math.Path.{fun_ext}
use Rattle.av_base.specs.declared.place.Place.{Place}
use Rattle.av_tree.specs.declared.domain.Term.{Term}
use Rattle.av_tree.specs.declared.expression.Expr.{Expr}
use Rattle.av_tree.specs.declared.domain.Constraint.{Constraint}
use Rattle.av_tree.specs.declared.domain.DomainText.{DomainText}
use Rattle.av_tree.specs.declared.domain.IndexExpr.{IndexExpr}
use Rattle.av_tree.specs.declared.domain.MapText.{MapText}
use Rattle.av_tree.specs.declared.expression.Access.{Access}
use Rattle.av_tree.specs.declared.relation.Relation.{Relation}
use Rattle.av_tree.specs.declared.sign.Sign.{Sign}
use Rattle.av_base.specs.declared.word.Op.{Op}
use Rattle.av_tree.specs.Trees.{Text, Expression, Expressions, view, view_all, reference, constant, binary, choice, restriction, cases, dependence, reduction}
use Rattle.av_tree.specs.Rows.{is_index}
use Rattle.av_names.specs.Forms.{Context, over, nameless, names_or}
use Rattle.av_names.specs.Found.{Found, sooner, first_of, first_found, found_where}
use Rattle.av_names.specs.Parts.{Part, parts_of, parts_of_all}
use Rattle.av_names.specs.inner.Seen.{SameNames}
use Rattle.av_names.specs.Unknowns.{named_unknown, unknown_term, unknown_index, unknown_side, unknown_written}
use Rattle.av_names.specs.Written.{Written, written_at}
use Rattle.av_names.proofs.Cases.{parts_append}
use Rattle.av_names.proofs.Sooner.{sooner_nothing, first_append}

-- ---- by sets of names

term_same : (s s' a b : List Text) → SameNames s s' → SameNames a b → (t : Term) → unknown_term s a t ≡ unknown_term s' b t
term_same s s' a b p q t = go t.name
  where
    go : (o : Option Text) → named_unknown s a t o ≡ named_unknown s' b t o
    go None = refl
    go (Some n) =
        ap (λ x. found_where (not x && not (is_index s n)) n t.place) (q n) ∙ ap (λ x. found_where (not (is_index b n) && not x) n t.place) (p n)

pub index_same : (s s' a b : List Text) → SameNames s s' → SameNames a b → unknown_index s a ≡ unknown_index s' b
index_same s s' a b p q = fun_ext (λ e. ap (λ rule. first_found rule e.terms) (fun_ext (term_same s s' a b p q)))

pub side_same : (s s' a b : List Text) → SameNames s s' → SameNames a b → unknown_side s a ≡ unknown_side s' b
side_same s s' a b p q = fun_ext (λ c. ap (λ rule. sooner (λ f. f.place) (rule c.left) (rule c.right)) (index_same s s' a b p q))

pub written_same : (s s' : List Text) → SameNames s s' → unknown_written s ≡ unknown_written s'
written_same s s' p =
    fun_ext (λ w. ap (λ rule. sooner (λ f. f.place) (first_found rule w.indices) (first_found (unknown_side s w.names) w.constraints)) (index_same s s' w.names w.names p (λ name. refl))
    ∙ ap (λ rule. sooner (λ f. f.place) (first_found (unknown_index s' w.names) w.indices) (first_found rule w.constraints)) (side_same s s' w.names w.names p (λ name. refl)))

-- ---- the parts of an expression

abbrev pub rule_of : List Text → Part → Option Found
rule_of s p = unknown_written s (written_at p)

-- two lists of parts, one behind the other
pub both : (P : Part → Option Found) (xs ys : List Part) (a b c : Option Found) → a ≡ first_found P xs → b ≡ first_found P ys → c ≡ sooner (λ f. f.place) a b → c ≡ first_found P (xs ++ ys)
both P xs ys a b c ea eb ec =
    ec ∙ ap (λ x. sooner (λ f. f.place) x b) ea ∙ ap (sooner (λ f. f.place) (first_found P xs)) eb ∙ sym (first_append (λ f. f.place) P xs ys)

-- a part, and those behind it
pub headed : (P : Part → Option Found) (x : Part) (xs : List Part) (a b c : Option Found) → a ≡ P x → b ≡ first_found P xs → c ≡ sooner (λ f. f.place) a b → c ≡ first_found P (x ∷ xs)
headed P x xs a b c ea eb ec = ec ∙ ap (λ x. sooner (λ f. f.place) x b) ea ∙ ap (sooner (λ f. f.place) (P x)) eb

pub first_flat_map : {A B C : Type 0} (at : A → Place) (rule : B → Option A) (f : C → List B) (xs : List C) → first_of at rule (flat_map f xs) ≡ first_of at (λ x. first_of at rule (f x)) xs
first_flat_map at rule f [] = refl
first_flat_map at rule f (x ∷ xs) = first_append at rule (f x) (flat_map f xs) ∙ ap (sooner at (first_of at rule (f x))) (first_flat_map at rule f xs)

-- one more branch
pub branch_more : (P : Part → Option Found) (reduced : Bool) (c : Context) (es : List Expr) (i : ℕ) (e : Expr) (a b m : Option Found) → i < length es → e ≡ get_or es i e
    → a ≡ first_found P (parts_of_all reduced c (view_all (take i es))) → b ≡ first_found P (parts_of reduced c (view e)) → m ≡ sooner (λ f. f.place) a b
    → m ≡ first_found P (parts_of_all reduced c (view_all (take (i + 1) es)))
branch_more P reduced c es i e a b m lt at ea eb em =
    let split : take (i + 1) es ≡ take i es ++ e ∷ [] = rw (add-one, take-suc es i e lt, sym at) refl in
    let one : parts_of_all reduced c (view_all (e ∷ [])) ≡ parts_of reduced c (view e) = append-nil (parts_of reduced c (view e)) in
    both P (parts_of_all reduced c (view_all (take i es))) (parts_of reduced c (view e)) a b m ea eb em
    ∙ ap (first_found P)
    (ap (λ (ps : List Part). parts_of_all reduced c (view_all (take i es)) ++ ps) (sym one)
    ∙ sym (parts_append reduced c (take i es) (e ∷ [])) ∙ ap (λ xs. parts_of_all reduced c (view_all xs)) (sym split))

-- ---- what is written at the head of an expression

pub indices_written : (s a names : List Text) (es : List IndexExpr) (w : Written) (m : Option Found) → SameNames a names → w ≡ record { names = names; indices = es; constraints = [] }
    → m ≡ first_found (unknown_index s a) es → m ≡ unknown_written s w
indices_written s a names es w m same is em =
    em ∙ ap (λ rule. first_found rule es) (index_same s s a names (λ name. refl) same)
    ∙ sym (sooner_nothing (λ f. f.place) (first_found (unknown_index s names) es)) ∙ ap (unknown_written s) (sym is)

pub sides_written : (s a names : List Text) (cs : List Constraint) (w : Written) (m : Option Found) → SameNames a names → w ≡ record { names = names; indices = []; constraints = cs }
    → m ≡ first_found (unknown_side s a) cs → m ≡ unknown_written s w
sides_written s a names cs w m same is em = em ∙ ap (λ rule. first_found rule cs) (side_same s s a names (λ name. refl) same) ∙ ap (unknown_written s) (sym is)

pub or_same : (a b names : List Text) → SameNames a b → SameNames (names_or a names) (names_or b names)
or_same a b [] same = same
or_same a b (n ∷ names) same = λ name. refl

-- ---- an expression and the parts in it

abbrev pub part_of : Bool → Context → Expression → Part
part_of reduced c e = record { context = c; reduced = reduced; expression = e }

-- a part is followed by those that stand in it
parts_headed : (reduced : Bool) (c : Context) (e : Expression) → parts_of reduced c e ≡ part_of reduced c e ∷ drop 1 (parts_of reduced c e)
parts_headed reduced c (reference name at place) = refl
parts_headed reduced c (constant n at place) = refl
parts_headed reduced c (binary g l r place) = refl
parts_headed reduced c (choice l compare r x y place) = refl
parts_headed reduced c (restriction d body place) = refl
parts_headed reduced c (cases es place) = refl
parts_headed reduced c (dependence t body place) = refl
parts_headed reduced c (reduction o t body place) = refl

pub headed_below : (P : Part → Option Found) (reduced : Bool) (c : Context) (e : Expression) (h i m : Option Found) → h ≡ P (part_of reduced c e) → i ≡ first_found P (drop 1 (parts_of reduced c e))
    → m ≡ sooner (λ f. f.place) h i → m ≡ first_found P (parts_of reduced c e)
headed_below P reduced c e h i m eh ei em =
    headed P (part_of reduced c e) (drop 1 (parts_of reduced c e)) h i m eh ei em ∙ ap (first_found P) (sym (parts_headed reduced c e))

module _ (P : Part → Option Found) (reduced : Bool) (c : Context) (e : Expression) (m : Option Found) where
  below : (xs : List Part) → parts_of reduced c e ≡ part_of reduced c e ∷ xs → m ≡ first_found P xs → m ≡ first_found P (drop 1 (parts_of reduced c e))
  below xs is em = em ∙ ap (λ (ps : List Part). first_found P (drop 1 ps)) (sym is)

  pub in_reference : (name : Text) (at : Access) (place : Place) → e ≡ reference name at place → m ≡ None → m ≡ first_found P (drop 1 (parts_of reduced c e))
  in_reference name at place is em = below [] (rw is refl) em

  pub in_constant : (n : ℕ) (at : Access) (place : Place) → e ≡ constant n at place → m ≡ None → m ≡ first_found P (drop 1 (parts_of reduced c e))
  in_constant n at place is em = below [] (rw is refl) em

  pub in_binary : (g : Sign) (l r : Expression) (place : Place) (a b : Option Found) → e ≡ binary g l r place → a ≡ first_found P (parts_of reduced c l) → b ≡ first_found P (parts_of reduced c r)
      → m ≡ sooner (λ f. f.place) a b → m ≡ first_found P (drop 1 (parts_of reduced c e))
  in_binary g l r place a b is ea eb em =
      below (parts_of reduced c l ++ parts_of reduced c r) (rw is refl) (both P (parts_of reduced c l) (parts_of reduced c r) a b m ea eb em)

  pub in_choice : (l : Expression) (compare : Relation) (r x y : Expression) (place : Place) (a b d f i j : Option Found) → e ≡ choice l compare r x y place → a ≡ first_found P (parts_of reduced c l)
      → b ≡ first_found P (parts_of reduced c r) → d ≡ first_found P (parts_of reduced c x) → f ≡ first_found P (parts_of reduced c y) → i ≡ sooner (λ f. f.place) d f → j ≡ sooner (λ f. f.place) b i
      → m ≡ sooner (λ f. f.place) a j → m ≡ first_found P (drop 1 (parts_of reduced c e))
  in_choice l compare r x y place a b d f i j is ea eb ed ef ei ej em =
      let pl = parts_of reduced c l in
      let pr = parts_of reduced c r in
      let px = parts_of reduced c x in
      let py = parts_of reduced c y in
      below (pl ++ (pr ++ (px ++ py))) (rw is refl) (both P pl (pr ++ (px ++ py)) a j m ea (both P pr (px ++ py) b i j eb (both P px py d f i ed ef ei) ej) em)

  pub in_restriction : (d : DomainText) (body : Expression) (place : Place) → e ≡ restriction d body place → m ≡ first_found P (parts_of reduced c body) → m ≡ first_found P (drop 1 (parts_of reduced c e))
  in_restriction d body place is em = below (parts_of reduced c body) (rw is refl) em

  pub in_cases : (es : Expressions) (place : Place) → e ≡ cases es place → m ≡ first_found P (parts_of_all reduced c es) → m ≡ first_found P (drop 1 (parts_of reduced c e))
  in_cases es place is em = below (parts_of_all reduced c es) (rw is refl) em

  pub in_dependence : (t : MapText) (body : Expression) (place : Place) → e ≡ dependence t body place → m ≡ first_found P (parts_of reduced (nameless (length t.results)) body)
      → m ≡ first_found P (drop 1 (parts_of reduced c e))
  in_dependence t body place is em = below (parts_of reduced (nameless (length t.results)) body) (rw is refl) em

  pub in_reduction : (o : Op) (t : MapText) (body : Expression) (place : Place) → e ≡ reduction o t body place → m ≡ first_found P (parts_of true (over t.names) body)
      → m ≡ first_found P (drop 1 (parts_of reduced c e))
  in_reduction o t body place is em = below (parts_of true (over t.names) body) (rw is refl) em
