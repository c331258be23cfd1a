-- The parts of a `for`.
use Rattle.std.proofs.Common.{◌≡◌, ℕ, suc, ◌+◌, ◌<◌, ◌≤◌, nat_eq, Bool, true, false, List, [], ◌∷◌, length, get_or}
use Rattle.std.proofs.Common.{Some, None, refl, sym, ap, ap₂, ◌∙◌, arith, if◌then◌else◌}
use Rattle.wg_num.specs.declared.types.Place.{Place}
use Rattle.cl_tree.specs.declared.tree.Tree.{Tree}
use Rattle.cl_tree.specs.declared.tree.Tree.TheViews.{out-Tree}
use Rattle.cl_tree.specs.Syntax.{Syntax, Forest, views, first_of, last_of}
use Rattle.cl_meaning.proofs.Views.{view_out}
use Rattle.cl_meaning.specs.Typed.{Piece}
use Rattle.cl_meaning.specs.Expressions.{read}
use Rattle.cl_meaning.specs.Statements.{loop_made, for_made, second_is_test}
use Rattle.cl_fragment.specs.Heads.{heads_in, loop_by, with_one}

one_is : (place : Place) (sites : List Place) (tested : Bool) (i e a : Piece)
    → (if tested then for_made place sites i (Some (read e.what)) None a else for_made place sites i None
    (Some (read e.what)) a) ≡ loop_by place sites (Some (with_one tested i.what (read e.what) a.what))
one_is place sites true i e a = refl
one_is place sites false i e a = refl

pub loop_is : (place : Place) (sites : List Place) (parts : Forest) (tested : Bool) (ps : List Piece) →
    second_is_test parts ≡ tested → loop_made place sites parts ps ≡ loop_by place sites (heads_in tested ps)
loop_is place sites parts tested [] h = refl
loop_is place sites parts tested (i ∷ []) h = refl
loop_is place sites parts tested (i ∷ a ∷ []) h = refl
loop_is place sites parts tested (i ∷ e ∷ a ∷ []) h =
    ap (λ b. if b then for_made place sites i (Some (read e.what)) None a else for_made place sites i None
    (Some (read e.what)) a) h ∙ one_is place sites tested i e a
loop_is place sites parts tested (i ∷ c ∷ e ∷ a ∷ []) h = refl
loop_is place sites parts tested (i ∷ c ∷ e ∷ a ∷ b ∷ rest) h = refl

-- what a loop is read by, from its tree
pub ruleset loop_parts = (view_out, loop_is)

second_is : (i e : Tree) (rest : List Tree) →
    second_is_test (views (i ∷ e ∷ rest)) ≡ nat_eq (out-Tree e).first (suc (out-Tree i).last)
second_is i e rest = ap₂ (λ (a b : Syntax). nat_eq (first_of b) (suc (last_of a))) (view_out i) (view_out e)

one_more : (n : ℕ) → n + 1 ≡ suc n
one_more n = omega arith

pub second_none : (ts : List Tree) → 1 ≤ length ts → length ts < 2 → false ≡ second_is_test (views ts)
second_none [] g h = absurd (omega (arith, g))
second_none (x ∷ []) g h = refl
second_none (x ∷ (y ∷ ts)) g h = absurd (omega (arith, h))

pub second_at : (ts : List Tree) (i e : Tree) (m n : ℕ) → 2 ≤ length ts → i ≡ get_or ts 0 i → e ≡ get_or ts 1 e
    → m ≡ (out-Tree e).first → n ≡ (out-Tree i).last → nat_eq m (n + 1) ≡ second_is_test (views ts)
second_at [] i e m n g p q x y = absurd (omega (arith, g))
second_at (a ∷ []) i e m n g p q x y = absurd (omega (arith, g))
second_at (a ∷ (b ∷ rest)) i e m n g p q x y =
    ap₂ nat_eq (x ∙ ap (λ (t : Tree). (out-Tree t).first) q) (one_more n ∙
    ap suc (y ∙ ap (λ (t : Tree). (out-Tree t).last) p))
    ∙ sym (second_is a b rest)
