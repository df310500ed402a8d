-- The data of a grid in the code, as `Text` defines it.
use Rattle.mesh_draw.specs.declared.vtk_texts.text.GridData.{GridData}
use Rattle.mesh_draw.specs.Text.{Data}

-- the data of a grid as lists alone
abbrev pub data_of : GridData → Data
data_of d = record {
  title = d.title.now;
  name = d.name.now;
  numbers = d.numbers.now;
  on_cells = d.on_cells.now;
  on_nodes = d.on_nodes.now;
}
