use Rattle.std.proofs.Common.{refl}
use Rattle.write_fitting.proofs.FitLemmas.{fits_is}
use Rattle.write_fitting.proofs.fitting.fits.Goals as goal

pub returns-then-is_of_kind : goal.returns-then-is_of_kind
returns-then-is_of_kind c = fits_is c.args.entry.now c.args.write.now c.as_slice.result.now c.names.result
    (c.if-is_of_kind.ensures.0 refl) c.as_slice.ensures c.names.ensures
