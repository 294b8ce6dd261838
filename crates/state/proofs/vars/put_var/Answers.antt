use native.Mathlib.Omega.{arith}
use Rattle.state.specs.VarLaws.{text_cell_small}
use Rattle.state.proofs.vars.put_var.Goals as goal

pub put_var_row-requires : goal.put_var_row-requires
put_var_row-requires c =
    let fits = c.requires.1 in (
      c.requires.0,
      record {
        first = fits.first;
        second = omega (arith, fits.first, c.text_cell.ensures, text_cell_small c.args.text);
        third = fits.second;
        fourth = omega (arith, fits.second, fits.third);
      },
    )
