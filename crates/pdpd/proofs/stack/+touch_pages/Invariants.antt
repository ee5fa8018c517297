use Rattle.pdpd.proofs.stack.+touch_pages.Given as goal

-- each call is of one page less
abbrev pub decreases-touch_pages : goal.decreases-touch_pages
decreases-touch_pages l = l.pages
