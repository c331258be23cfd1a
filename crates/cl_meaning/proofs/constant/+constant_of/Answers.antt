use Rattle.cl_tree.specs.Syntax.{view}
use Rattle.cl_meaning.proofs.Parts.{of_none, of_one, of_two, of_three, of_many}
use Rattle.cl_meaning.proofs.Values.{same_fits}
use Rattle.cl_meaning.proofs.constant.+constant_of.Goals as goal

pub returns-in-empty-clause-same : goal.returns-in-empty-clause-same
returns-in-empty-clause-same t c =
    of_none c.args.tree.now c.as_slice.result.now c.bytes-word.result.now c.word_constant.result
    c.as_slice.ensures.value c.in-empty.len_below c.bytes-word.ensures c.word_constant.ensures

pub returns-in-empty-clause-value : goal.returns-in-empty-clause-value
returns-in-empty-clause-value t c =
    same_fits (view c.args.tree.now) c.word_constant.result
    (of_none c.args.tree.now c.as_slice.result.now c.bytes-word.result.now c.word_constant.result
    c.as_slice.ensures.value c.in-empty.len_below c.bytes-word.ensures c.word_constant.ensures)

pub returns-in-len1-clause-same : goal.returns-in-len1-clause-same
returns-in-len1-clause-same t c =
    of_one c.args.tree.now c.a-item.result c.as_slice.result.now c.bytes-word.result.now c.declared_of.result
    c.constant_of.result c.prefixed_constant.result
    c.as_slice.ensures.value c.in-len1.len_at_least c.in-len1.len_below c.a-item.is c.bytes-word.ensures
    c.declared_of.ensures c.constant_of.ensures.same c.prefixed_constant.ensures

pub returns-in-len1-clause-value : goal.returns-in-len1-clause-value
returns-in-len1-clause-value t c =
    same_fits (view c.args.tree.now) c.prefixed_constant.result
    (of_one c.args.tree.now c.a-item.result c.as_slice.result.now c.bytes-word.result.now c.declared_of.result
    c.constant_of.result c.prefixed_constant.result
    c.as_slice.ensures.value c.in-len1.len_at_least c.in-len1.len_below c.a-item.is c.bytes-word.ensures
    c.declared_of.ensures c.constant_of.ensures.same c.prefixed_constant.ensures)

pub returns-in-len2-clause-same : goal.returns-in-len2-clause-same
returns-in-len2-clause-same t c =
    of_two c.args.tree.now c.a-item-then-this-lt3.result c.b-item.result c.as_slice.result.now c.bytes-word.result.now
    c.declared_of-in-len2.result c.constant_of-in-len2.result c.constant_of-in-len2-2.result
    c.joined_constant.result
    c.as_slice.ensures.value c.in-len2.len_at_least c.in-len2.len_below c.a-item-then-this-lt3.is c.b-item.is
    c.bytes-word.ensures
    c.declared_of-in-len2.ensures c.constant_of-in-len2.ensures.same c.constant_of-in-len2-2.ensures.same
    c.joined_constant.ensures

pub returns-in-len2-clause-value : goal.returns-in-len2-clause-value
returns-in-len2-clause-value t c =
    same_fits (view c.args.tree.now) c.joined_constant.result
    (of_two c.args.tree.now c.a-item-then-this-lt3.result c.b-item.result c.as_slice.result.now
    c.bytes-word.result.now c.declared_of-in-len2.result c.constant_of-in-len2.result
    c.constant_of-in-len2-2.result c.joined_constant.result
    c.as_slice.ensures.value c.in-len2.len_at_least c.in-len2.len_below c.a-item-then-this-lt3.is c.b-item.is
    c.bytes-word.ensures
    c.declared_of-in-len2.ensures c.constant_of-in-len2.ensures.same c.constant_of-in-len2-2.ensures.same
    c.joined_constant.ensures)

pub returns-in-len3-clause-same : goal.returns-in-len3-clause-same
returns-in-len3-clause-same t c =
    of_three c.args.tree.now c.t-item.result c.a-item-then-this-lt4.result c.b-item-then-this-lt4.result
    c.as_slice.result.now c.constant_of-in-len3.result c.constant_of-in-len3-2.result
    c.constant_of-in-len3-3.result c.selected_constant.result
    c.as_slice.ensures.value c.in-len3.len_at_least c.in-len3.len_below c.t-item.is c.a-item-then-this-lt4.is
    c.b-item-then-this-lt4.is
    c.constant_of-in-len3.ensures.same c.constant_of-in-len3-2.ensures.same c.constant_of-in-len3-3.ensures.same
    c.selected_constant.ensures

pub returns-in-len3-clause-value : goal.returns-in-len3-clause-value
returns-in-len3-clause-value t c =
    same_fits (view c.args.tree.now) c.selected_constant.result
    (of_three c.args.tree.now c.t-item.result c.a-item-then-this-lt4.result c.b-item-then-this-lt4.result
    c.as_slice.result.now c.constant_of-in-len3.result c.constant_of-in-len3-2.result
    c.constant_of-in-len3-3.result c.selected_constant.result
    c.as_slice.ensures.value c.in-len3.len_at_least c.in-len3.len_below c.t-item.is c.a-item-then-this-lt4.is
    c.b-item-then-this-lt4.is
    c.constant_of-in-len3.ensures.same c.constant_of-in-len3-2.ensures.same c.constant_of-in-len3-3.ensures.same
    c.selected_constant.ensures)

pub returns-in_default-clause-same : goal.returns-in_default-clause-same
returns-in_default-clause-same t c =
    of_many c.args.tree.now c.as_slice.result.now c.as_slice.ensures.value c.in_default.len_at_least
