-- The derived test of equality holds of equal cells alone.
use Rattle.std.proofs.Common.{◌≡◌, rules, true}
use Rattle.sym_simplify.specs.declared.node.FormId.{FormId}
use Rattle.sym_simplify.specs.declared.node.FormPart.{FormPart}
use Rattle.sym_simplify.specs.declared.node.FormNode.{FormNode}
use Rattle.sym_simplify.specs.declared.node.FormNode.TheVariants.{Constant, More}
use Rattle.sym_simplify.specs.contracts.node.FormNodePartialEq.TheImpl as cells
use Rattle.sym_simplify.specs.contracts.node.FormPartPartialEq.TheImpl as parts
use Rattle.sym_simplify.specs.contracts.node.FormIdPartialEq.TheImpl as ids

id-is : (x y : FormId) → (ids.eq-value).it x y ≡ true → x ≡ y
id-is x y h = search rules

part-is : (x y : FormPart) → (parts.eq-value).it x y ≡ true → x ≡ y
part-is x y h = search rules

pub cell_is : (x y : FormNode) → (cells.eq-value).it x y ≡ true → x ≡ y
cell_is (Constant c) (Constant d) h = search rules
cell_is (Constant c) (More p i) h = search rules
cell_is (More p i) (Constant d) h = search rules
cell_is (More p i) (More q j) h = search (rules, id-is, part-is)
