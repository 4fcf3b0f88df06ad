-- The line is written from the carnet, and then the carnet without what was sold.
use Prim.Native.Nat.{◌≤◌}
use Rattle.rules.specs.Lists.{◌+◌}
use Rattle.rules.specs.Hall.{most_held, most_sales}
use Rattle.book.specs.Forms.{form_of}
use Rattle.changes.proofs.lines.Sold.{sold_few, count_fits, sales_fit, carnet_waits, sale_sold}
use borrow.Author.Rules.{rules}
use Rattle.changes.proofs.lines.sell.Goals as goal

pub overflow_add-count : goal.overflow_add-count
overflow_add-count c =
    let l : c.word_of-count.result + c.args.n ≤ most_held =
    count_fits _ _ _ _ _ c.requires _ c.word_of-count.ensures in
    search rules

pub overflow_add-sales : goal.overflow_add-sales
overflow_add-sales c =
    let l : c.word_of-sales.result + c.min.result ≤ most_sales + 1 =
    sales_fit _ _ _ _ _ c.requires _ _ c.word_of-sales.ensures c.min.ensures in
    search rules

pub overflow_sub-n : goal.overflow_sub-n
overflow_sub-n c =
    sold_few (form_of c.args.form) c.args.book.now c.args.carnet c.args.line c.args.n c.requires

pub keep_rest-requires : goal.keep_rest-requires
keep_rest-requires c =
    let a = c.args in
    let waits =
    carnet_waits (form_of a.form) a.book.now a.carnet a.line a.n c.requires _ _ _ _ _
    c.word_of-count.ensures c.word_of-sales.ensures c.min.ensures
    c.put_sale.ensures c.write_head.ensures _ _ c.word_of-held.ensures c.min-m.ensures in
    (search rules, waits.0, waits.1, waits.2)

pub returns : goal.returns
returns c =
    let a = c.args in
    sale_sold (form_of a.form) a.book.now a.carnet a.line a.n c.requires _ _ _ _ _
    c.word_of-count.ensures c.word_of-sales.ensures c.min.ensures
    c.put_sale.ensures c.write_head.ensures _ c.keep_rest.ensures
