-- What a declarator does, by what is known where it stands.
use Rattle.std.proofs.Common.{◌≡◌, ℕ, nat_eq, length, Bool, true, false, List, Option, Some, None, option_map, refl}
use Rattle.std.proofs.Common.{ap₂, sym, ◌∙◌, if◌then◌else◌}
use Rattle.std.proofs.Common as std
use Rattle.wg_num.specs.declared.types.Place.{Place}
use Rattle.cl_model.specs.declared.program.Space.{Space}
use Rattle.cl_model.specs.declared.program.Space.TheVariants as spaces
use Rattle.cl_tree.specs.Syntax.{Syntax}
use Rattle.cl_meaning.specs.declared.types.Declared.{Declared}
use Rattle.cl_meaning.specs.Environment.{Env}
use Rattle.cl_meaning.specs.Kinds.{is_some}
use Rattle.cl_meaning.specs.Declarations.{Declarator, kept_in}
use Rattle.cl_meaning.specs.Typed.{Piece, Built}
use Rattle.cl_meaning.specs.Expressions.{made, read, operand}
use Rattle.cl_meaning.specs.Statements.{declarator_made, scalar_made, array_made, set_value, list_values}
use Rattle.cl_fragment.specs.declared.declarators.Declaring as rust
use Rattle.cl_fragment.specs.Declares.{initial_in, variable_line, scalar_what, array_built, declared_built}

abbrev plain : Place → List Place → Bool → ℕ → Bool → Space → ℕ → ℕ → Declared → List Piece → Built
plain place sites star dimensions initialized kept variables arrays t ps =
    if star
    then made (variable_line variables (set_value (λ p. read p.what) (initial_in initialized ps))) sites
    else (if nat_eq dimensions 0 then made (scalar_what kept variables t.of (initial_in initialized ps)) sites else
    array_built place sites kept arrays (initial_in initialized ps))

scalar_is : (env : Env) (sites : List Place) (t : Declared) (p : Option Piece) (s : Space) →
    scalar_made env sites (set_value (operand t.of) p) s ≡ made (scalar_what s (length env.variables) t.of p) sites
unfolding scalar_what
scalar_is env sites t p spaces.Private = refl
scalar_is env sites t p spaces.Global = refl
scalar_is env sites t p spaces.Constant = refl
scalar_is env sites t p spaces.Local = refl

array_is : (env : Env) (place : Place) (sites : List Place) (p : Option Piece) (s : Space) →
    array_made env place sites (list_values p) s ≡ array_built place sites s (length env.arrays) p
array_is env place sites p spaces.Private = refl
array_is env place sites p spaces.Global = refl
array_is env place sites p spaces.Constant = refl
array_is env place sites p spaces.Local = refl

-- by the fields of the declarator
by_fields : (env : Env) (place : Place) (sites : List Place) (t : Declared) (name : List ℕ) (token : ℕ)
    (star : Option Bool) (dimensions : ℕ) (lengths : List Syntax) (init : Option Syntax) (ps : List Piece)
    → declarator_made env place sites (Some t) (record {
      name = name;
      token = token;
      star = star;
      dimensions = dimensions;
      lengths = lengths;
      init = init;
    }) ps
    ≡ plain place sites (is_some star) dimensions (is_some init) (kept_in env t) (length env.variables)
    (length env.arrays) t ps
by_fields env place sites t name token (Some f) dimensions lengths None ps = refl
by_fields env place sites t name token (Some f) dimensions lengths (Some v) ps = refl
by_fields env place sites t name token None dimensions lengths None ps =
    ap₂ (λ a b. if nat_eq dimensions 0 then a else b) (scalar_is env sites t (initial_in false ps) (kept_in env t))
    (array_is env place sites (initial_in false ps) (kept_in env t))
by_fields env place sites t name token None dimensions lengths (Some v) ps =
    ap₂ (λ a b. if nat_eq dimensions 0 then a else b) (scalar_is env sites t (initial_in true ps) (kept_in env t))
    (array_is env place sites (initial_in true ps) (kept_in env t))

pub declarator_is : (env : Env) (place : Place) (sites : List Place) (t : Declared) (x : Declarator)
    (d : rust.Declaring) (ps : List Piece)
    → d.star ≡ is_some x.star → d.dimensions ≡ x.dimensions → d.initialized ≡ is_some x.init →
    d.kept ≡ kept_in env t → d.variables ≡ length env.variables → d.arrays ≡ length env.arrays
    → declarator_made env place sites (Some t) x ps ≡ declared_built place sites d (Some t) ps
declarator_is env place sites t x d ps star dimensions initialized kept variables arrays =
    by_fields env place sites t x.name x.token x.star x.dimensions x.lengths x.init ps
    ∙ sym (λ i. plain place sites (star i) (dimensions i) (initialized i) (kept i) (variables i) (arrays i) t ps)

pub some_is : {A : Type 0} (o : Option A) → std.is_some o ≡ is_some o
some_is None = refl
some_is (Some a) = refl

pub some_mapped : {A B : Type 0} (f : A → B) (o : Option A) → std.is_some o ≡ is_some (option_map f o)
some_mapped f None = refl
some_mapped f (Some a) = refl
