use Rattle.std.proofs.Common.{◌≡◌, length, map, Option, refl, ap, ◌∙◌, arith}
use Rattle.std.proofs.Math.ListN.{length-map}
use Rattle.cl_tree.specs.Syntax.{view}
use Rattle.cl_meaning.specs.declared.types.Declared.{Declared}
use Rattle.cl_meaning.specs.Statements.{declarator_made}
use Rattle.cl_meaning.specs.View.{array_of, variable_of}
use Rattle.cl_scope.specs.View.{visible_in}
use Rattle.cl_scope.specs.Declarators.{declarator_view}
use Rattle.cl_fragment.specs.View.{piece_of}
use Rattle.cl_fragment.proofs.Declaring.{declarator_is, some_is, some_mapped}
use Rattle.cl_fragment.proofs.context.declarator_at.Goals as goal

pub returns : goal.returns
returns c =
    let e = c.args.environment.now in
    let variables : c.len.result ≡ length (map variable_of e.variables.items) =
    omega (arith, c.len.ensures, e.variables.ok.0, length-map e.variables.items variable_of) in
    let arrays : c.len-2.result ≡ length (map array_of e.arrays.items) =
    omega (arith, c.len-2.ensures, e.arrays.ok.0, length-map e.arrays.items array_of) in
    ap (λ (d : Option Declared). declarator_made (visible_in e) c.args.place c.args.sites.now.items d
    (declarator_view c.args.of.now) (map piece_of c.args.pieces.items)) c.in-Some.is
    ∙ (declarator_is (visible_in e) c.args.place c.args.sites.now.items c.in-Some.declared
    (declarator_view c.args.of.now)
    (record {
      star = c.is_some.result;
      dimensions = c.args.of.now.dimensions;
      initialized = c.is_some-2.result;
      kept = c.kept_in.result;
      variables = c.len.result;
      arrays = c.len-2.result;
    })
    (map piece_of c.args.pieces.items)
    (c.is_some.ensures ∙ some_is c.args.of.now.star) refl (c.is_some-2.ensures ∙
    some_mapped (λ t. view t.now) c.args.of.now.init) c.kept_in.ensures variables arrays
    ∙ c.in_ok-what.ensures)
