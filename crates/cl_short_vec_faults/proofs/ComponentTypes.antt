-- What the plain form of a vector type declares: numbers of the type of its components.
use Rattle.std.proofs.Common.{◌≡◌, ℕ, List, Option, None, Some, Bool, false, refl, ap, ◌∙◌}
use Rattle.wg_num.specs.declared.types.IntType.{IntType}
use Rattle.cl_model.specs.declared.program.Space.{Space}
use Rattle.cl_tree.specs.declared.tree.Form.TheVariants as forms
use Rattle.cl_tree.specs.Syntax.{Syntax, node, Forest, none, more}
use Rattle.cl_meaning.specs.declared.types.Base.TheVariants.{Integer}
use Rattle.cl_meaning.specs.Types.{is_const, space_among, declared_in, declared_as}
use Rattle.cl_meaning.specs.Declarations.{word_of, parts_of, pointed_space}
use Rattle.cl_check_sound.specs.Shape.{IsType}
use Rattle.cl_short_vec.specs.declared.types.Vector.{Vector}
use Rattle.cl_short_vec.specs.Types.{vector_in, vector_type}
use Rattle.cl_short_vec.specs.Kinds.{space_or_private}
use Rattle.cl_short_vec.specs.Nodes.{constant_word}
use Rattle.cl_short_vec.specs.Scalar.{component_words}
use Rattle.cl_short_vec_faults.specs.PlainForm.{plain_of, plains_of}
use Rattle.cl_short_vec_faults.proofs.LineWords.{base_word, const_word, declared_with}

words_declared : (constant : Bool) (of : IntType) (f l : ℕ) (ps : Forest) →
    declared_in (node forms.TypeNode (constant_word constant of) f l ps) ≡
    Some (declared_with (space_among ps) constant of)
words_declared constant of f l ps =
    ap (λ b. declared_as b (is_const (constant_word constant of)) (space_among ps)) (base_word constant of) ∙
    ap (λ c. declared_as (Some (Integer of false)) c (space_among ps)) (const_word constant of)

vector_words : (o : Option Vector) (v : Vector) (w : List ℕ) (f l : ℕ) (ps : Forest) → o ≡ Some v →
    declared_in (node forms.TypeNode (component_words o w) f l ps) ≡
    Some (declared_with (space_among ps) (is_const w) v.of)
vector_words o v w f l ps e =
    ap (λ o. declared_in (node forms.TypeNode (component_words o w) f l ps)) e ∙ words_declared (is_const w) v.of f l ps

pub components_declared : (type : Syntax) (v : Vector) → IsType type → vector_type type ≡ Some v →
    declared_in (plain_of type) ≡ Some (declared_with (space_among (parts_of type)) (is_const (word_of type)) v.of)
unfolding plain_of plains_of
components_declared (node forms.TypeNode w f l none) v h e = vector_words (vector_in w) v w f l none e
components_declared (node forms.TypeNode w f l (more (node forms.SpaceNode w' f' l' none) none)) v h e =
    vector_words (vector_in w) v w f l (more (node forms.SpaceNode w' f' l' none) none) e
components_declared type v h e = absurd h

-- the space into which a pointer to them points
pub pointed_is : (o : Option Space) (constant : Bool) (of : IntType) →
    pointed_space (declared_with o constant of) ≡ space_or_private o
pointed_is None constant of = refl
pointed_is (Some s) constant of = refl
