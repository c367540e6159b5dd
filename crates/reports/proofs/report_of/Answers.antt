-- Each figure is what the function for it gives.
use Rattle.reports.proofs.Figures.{report_told}
use Rattle.layout.specs.Picture.{cache_in}
use Rattle.reports.proofs.report_of.Goals as goal

pub returns : goal.returns
returns c =
    report_told (cache_in c.args.table.now) c.sums_of-held.ensures.0 c.sums_of-held.ensures.1 c.used_len-entries.ensures c.maximum-maximum.ensures c.settings.ensures
    c.size_product-clean.ensures c.share_missing-missing.ensures c.count-count.ensures c.threshold.ensures c.next_number.ensures c.sums_of-held.ensures.2
